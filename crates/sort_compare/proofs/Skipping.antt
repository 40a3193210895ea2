-- From a field to the next: what stands at the place of the next field is what follows the field in front. It is told of a byte string from its
-- start, and shifted to a position.
-- Assumes nothing.
use mathlib.Core.Path.{◌≡◌, refl, ◌∙◌}
use mathlib.Core.Bool.{Bool, true, false}
use mathlib.Core.List.{List, [], ◌∷◌}
use Prim.Native.Nat.{ℕ, suc, ◌+◌, ◌≤◌}
use native.Mathlib.Omega.{arith}
use lib.ListN.{length, drop, get_or, length-drop}
use lib.Seq.{get_or-drop, drop-drop}
use Rattle.text_scan.specs.Choice.{pick, ◌or◌, not}
use Rattle.text_scan.proofs.Tests.{pick_case}
use Rattle.text_scan.proofs.Within.{holds_there}
use Rattle.table_lines.specs.Lines.{is_tab, front}
use Rattle.sort_compare.specs.Fields.{is_feed, front_field, after_field, next_place, skip_place}

-- ---- from the start
-- one byte more in front
next_on : (t : Bool) (m b : ℕ) (bs : List ℕ) → drop (pick t (suc m + 1) (suc m)) (b ∷ bs) ≡ drop (pick t (m + 1) m) bs
next_on true m b bs =
    let e : suc m + 1 ≡ suc (m + 1) = omega arith in
    rw e
next_on false m b bs = refl

front_next : (bs : List ℕ) → drop (next_place bs (length (front_field true bs))) bs ≡ after_field bs
unfolding front_field front after_field next_place
front_next [] = refl
front_next (b ∷ bs) = go (is_tab b) (is_feed b) refl (front_next bs)
  where
    go : (t u : Bool) → is_tab b ≡ t → drop (next_place bs (length (front_field true bs))) bs ≡ after_field bs
        → drop (next_place (b ∷ bs) (length (pick (not (t or u)) (b ∷ front_field true bs) []))) (b ∷ bs) ≡ pick t bs (pick u (b ∷ bs) (after_field bs))
    go true u e q = rw e
    go false true e q = rw e
    go false false e q = next_on (is_tab (get_or bs (length (front_field true bs)) 0)) (length (front_field true bs)) b bs ∙ q

-- ---- from a position
next_shift : (s : List ℕ) (i n : ℕ) → drop (next_place s (i + n)) s ≡ drop (next_place (drop i s) n) (drop i s)
unfolding next_place
next_shift s i n = rw (get_or-drop i s n 0) (go (is_tab (get_or s (i + n) 0)))
  where
    go : (t : Bool) → drop (pick t (i + n + 1) (i + n)) s ≡ drop (pick t (n + 1) n) (drop i s)
    go true =
        let e : i + n + 1 ≡ i + (n + 1) = omega arith in
        rw (drop-drop (n + 1) i s, e)
    go false = rw (drop-drop n i s)

pub drop_skip : (s : List ℕ) (i : ℕ) → drop (skip_place s i) s ≡ after_field (drop i s)
unfolding skip_place
drop_skip s i = next_shift s i (length (front_field true (drop i s))) ∙ front_next (drop i s)

-- ---- the place lies within
pub part_most : (bs : List ℕ) → length (front_field true bs) ≤ length bs
unfolding front_field front
part_most [] = omega arith
part_most (b ∷ bs) =
    pick_case (λ (f : List ℕ). length f ≤ length (b ∷ bs)) (not (is_tab b or is_feed b)) (b ∷ front_field true bs) [] (λ _. omega (arith, part_most bs)) (λ _. omega arith)

pub skip_low : (s : List ℕ) (i : ℕ) → i ≤ length s → skip_place s i ≤ length s
unfolding skip_place next_place
skip_low s i h =
    let n = i + length (front_field true (drop i s)) in
    pick_case (λ (k : ℕ). k ≤ length s) (is_tab (get_or s n 0)) (n + 1) n
    (λ e. omega (arith, holds_there is_tab refl s n e))
    (λ _. omega (arith, part_most (drop i s), length-drop i s))

-- by the calls of the code
pub skipped : (s : List ℕ) (i e r : ℕ) → e ≡ i + length (front_field true (drop i s)) → r ≡ next_place s e → r ≡ skip_place s i
unfolding skip_place
skipped s i e r f g = rw (← f) g
