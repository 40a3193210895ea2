-- A copy, number by number, to a run of the same length.
-- Assumes nothing.
use mathlib.Core.Path.{◌≡◌, refl, sym, ◌∙◌, ap}
use mathlib.Core.List.{List, [], ◌∷◌, ◌++◌}
use Prim.Native.Nat.{ℕ, ◌+◌, ◌<◌, ◌≤◌}
use native.Mathlib.Numerals.{add-one}
use native.Mathlib.Omega.{arith}
use lib.ListN.{length, take, get_or, set}
use lib.Seq.{take-suc, take-suc-set, take_all}

-- the first i numbers are copied
unfoldable pub Copied : List ℕ → List ℕ → ℕ → Type 0
Copied from to i = take i to ≡ take i from

pub copied_none : (from to : List ℕ) → Copied from to 0
unfolding Copied
copied_none from to = refl

module _ (from to : List ℕ) (i : ℕ) (e : Copied from to i) (to₀ : List ℕ) (k : length to ≡ length to₀) (g : length from ≡ length to₀) where
  pub copied_more : i < length from → Copied from (set to i (get_or from i 0)) (i + 1)
  unfolding Copied
  copied_more h =
      rw add-one
      (take-suc-set to i (get_or from i 0) (omega arith) ∙ ap (λ l. l ++ get_or from i 0 ∷ []) e ∙ sym (take-suc from i 0 h))

  pub copied_all : length from ≤ i → to ≡ from
  unfolding Copied
  copied_all h = sym (take_all i to (omega arith)) ∙ e ∙ take_all i from h
