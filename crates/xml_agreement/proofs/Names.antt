-- A name that ends before a byte which no name has, and the name that stands at a place.
-- Assumes nothing.
use mathlib.Core.Path.{◌≡◌, refl, sym, ◌∙◌, ap}
use mathlib.Core.Bool.{Bool, true, false}
use mathlib.Core.List.{List, [], ◌∷◌}
use Prim.Native.Nat.{ℕ, zero, suc, ◌+◌, ◌-◌, ◌<◌, ◌≤◌}
use native.Mathlib.Omega.{arith}
use borrow.Author.Tests.{eq-eqb}
use lib.ListN.{length, take, drop, get_or, length-drop}
use lib.Seq.{length-take-le}
use Rattle.text_scan.specs.Lists.{begins, run_from}
use Rattle.text_scan.proofs.Tests.{never, pick_case}
use Rattle.text_scan.proofs.Within.{inside}
use Rattle.text_scan.proofs.Lists.{run_goes, run_stops}
use Rattle.xml_names.specs.Names.{is_name_start, is_name_char, name_end, name_at, name_is}
use Rattle.xml_names.proofs.Names.{name_least, name_most}

module _ (p : ℕ → Bool) (s : List ℕ) (q : ℕ) (h : q < length s) (e : p (get_or s q 0) ≡ false) where
  run_before : (k i : ℕ) → q - i < k → i ≤ q → run_from p s i ≤ q
  run_before zero i f l = absurd (omega arith)
  run_before (suc k) i f l = go (p (get_or s i 0)) refl (λ lt. run_before k (i + 1) (omega arith) (omega arith))
    where
      go : (t : Bool) → p (get_or s i 0) ≡ t → (i < q → run_from p s (i + 1) ≤ q) → run_from p s i ≤ q
      go true y next = inside q i
          (λ lt. omega (arith, next lt, run_goes p s i i refl true (omega arith) (sym y) refl))
          (λ ge. let z : i ≡ q = omega arith in never (sym y ∙ ap (λ (m : ℕ). p (get_or s m 0)) z ∙ e))
      go false y next = omega (arith, run_stops p s i i refl false (omega arith) (sym y) refl)

pub name_before : (s : List ℕ) (q i : ℕ) → q < length s → is_name_char (get_or s q 0) ≡ false → i ≤ q → name_end s i ≤ q
unfolding name_end
name_before s q i h e l =
    pick_case (λ m. m ≤ q) (is_name_start (get_or s i 0)) (run_from is_name_char s i) i (λ _. run_before is_name_char s q h e (suc (q - i)) i (omega arith) l) (λ _. l)

begins_itself : (n : ℕ) (xs : List ℕ) → begins (take n xs) xs ≡ true
unfolding begins
begins_itself zero xs = refl
begins_itself (suc n) [] = refl
begins_itself (suc n) (x ∷ xs) = rw (eq-eqb x x refl) (begins_itself n xs)

pub is_itself : (s : List ℕ) (i : ℕ) → i ≤ length s → name_is (name_at s i) s i ≡ true
unfolding name_is
is_itself s i h =
    let a : length (name_at s i) ≡ name_end s i - i = length-take-le (name_end s i - i) (drop i s) (omega (arith, length-drop i s, name_most s i h, name_least s i)) in
    rw (begins_itself (name_end s i - i) (drop i s)) (eq-eqb (name_end s i - i) (length (name_at s i)) (sym a))
