-- What is stored one after the other is stored as one list.
-- Assumes nothing.
use Rattle.std.specs.Prelude.{Option}
use mathlib.Core.Path.{◌≡◌, refl, ◌∙◌, ap}
use mathlib.Core.Bool.{Bool}
use mathlib.Core.List.{List, [], ◌∷◌, ◌++◌}
use Prim.Native.Nat.{ℕ, suc, ◌+◌, ◌≤◌}
use native.Mathlib.Omega.{arith}
use lib.ListN.{length, take, set}
use lib.Seq.{sets, take-set-le}
use Rattle.xml_values.specs.declared.Place.{Place}
use Rattle.xml_listed.specs.declared.Listed.{Listed}
use Rattle.judge_kept.specs.Kept.{place_numbers, listed_numbers, flag_of, text_kept, listed_kept, kept_of}

pub sets_then : (xs ys w : List ℕ) (at k : ℕ) → k ≡ at + length xs → sets (sets w at xs) k ys ≡ sets w at (xs ++ ys)
sets_then [] ys w at k e =
    let z : k ≡ at = omega arith in
    rw z
sets_then (x ∷ xs) ys w at k e = sets_then xs ys (set w at x) (suc at) k (omega arith)

-- what stands in front stays
pub take_sets : (xs w : List ℕ) (n at : ℕ) → n ≤ at → take n (sets w at xs) ≡ take n w
take_sets [] w n at h = refl
take_sets (x ∷ xs) w n at h = take_sets xs (set w at x) n (suc at) (omega arith) ∙ take-set-le n w at x h

-- two numbers, by two stores
pub two_stored : (w : List ℕ) (at : ℕ) (r : ℕ × ℕ) (x y : ℕ) → r ≡ (x, y) → set (set w at r.0) (at + 1) r.1 ≡ sets w at (x ∷ y ∷ [])
two_stored w at r x y e =
    let z : suc at ≡ at + 1 = omega arith in
    rw (z, e)

-- two lists
pub both_stored : (xs ys w : List ℕ) (at k : ℕ) (w1 : List ℕ) → w1 ≡ sets w at xs → k ≡ at + length xs → (w2 : List ℕ) → w2 ≡ sets w1 k ys → w2 ≡ sets w at (xs ++ ys)
both_stored xs ys w at k w1 e1 h w2 e2 = e2 ∙ ap (λ x. sets x k ys) e1 ∙ sets_then xs ys w at k h

pub two_places : (x y : Option Place) (w : List ℕ) (at : ℕ) (w1 : List ℕ) → w1 ≡ sets w at (place_numbers x) → (w2 : List ℕ) → w2 ≡ sets w1 (at + 2) (place_numbers y) → w2 ≡ sets w at (place_numbers x ++ place_numbers y)
two_places x y w at w1 e1 w2 e2 = both_stored (place_numbers x) (place_numbers y) w at (at + 2) w1 e1 refl w2 e2

pub last_stored : (z : Option Place) (other : Bool) (w : List ℕ) (at : ℕ) (w1 : List ℕ) → w1 ≡ sets w at (place_numbers z) → (f : ℕ) → f ≡ flag_of other → set w1 (at + 2) f ≡ sets w at (place_numbers z ++ (flag_of other ∷ []))
last_stored z other w at w1 e1 f ef = both_stored (place_numbers z) (flag_of other ∷ []) w at (at + 2) w1 e1 refl (set w1 (at + 2) f) (rw ef)

pub listed_stored : (l : Listed) (w : List ℕ) (at : ℕ) (w1 : List ℕ) → w1 ≡ sets w at (place_numbers l.x ++ place_numbers l.y) → (w2 : List ℕ) → w2 ≡ sets w1 (at + 4) (place_numbers l.z ++ (flag_of l.other ∷ [])) → w2 ≡ sets w at (listed_numbers l)
listed_stored l w at w1 e1 w2 e2 =
    both_stored (place_numbers l.x ++ place_numbers l.y) (place_numbers l.z ++ (flag_of l.other ∷ [])) w at (at + 4) w1 e1 refl w2 e2

pub kept_stored : (s : List ℕ) (f r : ℕ) (w : List ℕ) (at : ℕ) (p : Option Place) → p ≡ text_kept s f r → (w1 : List ℕ) → w1 ≡ sets w at (place_numbers p) → (l : Listed) → l ≡ listed_kept s f r → (w2 : List ℕ) → w2 ≡ sets w1 (at + 2) (listed_numbers l) → w2 ≡ sets w at (kept_of s f r)
unfolding kept_of
kept_stored s f r w at p ep w1 e1 l el w2 e2 =
    e2 ∙ ap (λ x. sets x (at + 2) (listed_numbers l)) e1 ∙ sets_then (place_numbers p) (listed_numbers l) w at (at + 2) refl ∙ rw (ep, el)
