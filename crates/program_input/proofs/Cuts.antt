-- A byte string that is cut at the first of some byte.
-- Assumes nothing.
use mathlib.Core.Path.{◌≡◌, refl, sym, ◌∙◌}
use mathlib.Core.Bool.{Bool, true, false}
use mathlib.Core.List.{List, []}
use Prim.Native.Nat.{ℕ, ◌+◌, ◌-◌, ◌<◌, ◌≤◌}
use native.Mathlib.Omega.{arith}
use borrow.Author.Tests.{ltb-true, ltb-false}
use lib.Dec.{ltb}
use lib.Seq.{take_all}
use lib.ListN.{length, take, drop, length-drop, drop_of_length-le}
use Rattle.std.specs.Prelude.{◌==◌, Some, None, cond}
use Rattle.std.specs.List.{position, position_or_len}

module _ (s : List ℕ) (b : ℕ) where
  abbrev first : ℕ
  first = position_or_len (λ x. x == b) s

  its_place : (k : ℕ) → Some k ≡ position (λ x. x == b) s → (k ≡ first) × (k < length s)
  its_place k e = go (ltb first (length s)) refl (sym e)
    where
      go : (t : Bool) → ltb first (length s) ≡ t → cond t (Some first) None ≡ Some k → (k ≡ first) × (k < length s)
      go true h f = let q : k ≡ first = cc in (q, omega (arith, ltb-true first (length s) h))
      go false h f = absurd (let z : ◌≡◌ {A = ℕ} 0 1 = cc in omega arith)

  no_place : None ≡ position (λ x. x == b) s → length s ≤ first
  no_place e = go (ltb first (length s)) refl (sym e)
    where
      go : (t : Bool) → ltb first (length s) ≡ t → cond t (Some first) None ≡ None → length s ≤ first
      go true h f = absurd (let z : ◌≡◌ {A = ℕ} 0 1 = cc in omega arith)
      go false h f = ltb-false first (length s) h

  module _ (k : ℕ) (e : Some k ≡ position (λ x. x == b) s) where
    pub cut_before : take k s ≡ take first s
    cut_before = rw (its_place k e).0

    pub cut_behind : take (length s - (k + 1)) (drop (k + 1) s) ≡ drop (first + 1) s
    cut_behind =
        let q = (its_place k e).0 in
        take_all _ (drop (k + 1) s) (omega (arith, length-drop (k + 1) s)) ∙ rw q

  module _ (e : None ≡ position (λ x. x == b) s) where
    pub whole_before : s ≡ take first s
    whole_before = sym (take_all _ s (no_place e))

    pub nothing_behind : [] ≡ drop (first + 1) s
    nothing_behind = let h = no_place e in sym (drop_of_length-le s (omega arith))
