-- Where element names end, for callers, and the question whether a name is a given text, by the tests of the code.
-- Assumes nothing.
use mathlib.Core.Path.{◌≡◌, sym, ◌∙◌}
use mathlib.Core.Bool.{Bool, true, false}
use mathlib.Core.List.{List, []}
use Prim.Native.Nat.{ℕ, ◌-◌, ◌<◌, ◌≤◌}
use native.Mathlib.Omega.{arith}
use borrow.Author.Tests.{eq-eqb, ne_eqb}
use lib.Dec.{eqb}
use lib.ListN.{length, get_or, take, drop, drop_of_length-le}
use lib.Seq.{take-nil}
use Rattle.text_scan.specs.Lists.{stands}
use Rattle.text_scan.proofs.Tests.{pick_case, and_false, and_true}
use Rattle.text_scan.proofs.Within.{inside}
use Rattle.text_scan.proofs.Lists.{run_least}
use Rattle.xml_names.specs.Names.{name_end, name_at, name_is}
use Rattle.xml_names.proofs.Names.{name_least, name_most}
use Rattle.xml_names.specs.ElementNames.{is_element_start, is_element_char, element_end}

module _ (s : List ℕ) (at : ℕ) where
  -- ---- bounds
  pub element_least : at ≤ element_end s at
  unfolding element_end
  element_least = pick_case (λ r. at ≤ r) (is_element_start (get_or s at 0)) _ _ (λ _. run_least is_element_char s at) (λ _. omega arith)

-- ---- a given text
module _ (t s : List ℕ) (at : ℕ) (u : Bool) (eu : u ≡ stands t s at) where
  pub text_differs : u ≡ false → false ≡ name_is t s at
  unfolding name_is
  text_differs f = rw (← eu, f)

  module _ (y : u ≡ true) (n : ℕ) (en : n ≡ name_end s at) where
    pub name_behind : at ≤ n
    name_behind = rw en (name_least s at)

    pub name_length : eqb (n - at) (length t) ≡ name_is t s at
    unfolding name_is
    name_length = rw (← eu, y, ← en)

-- the same of a name whose end is known
module _ (t s : List ℕ) (at n : ℕ) (en : n ≡ name_end s at) where
  pub as_long : n - at ≡ length t → (u : Bool) → u ≡ stands t s at → u ≡ name_is t s at
  unfolding name_is
  as_long h u eu = eu ∙ sym (rw (← en, eq-eqb (n - at) (length t) h) (and_true (stands t s at)))

  pub of_other_length : (n - at ≡ length t → ⊥) → false ≡ name_is t s at
  unfolding name_is
  of_other_length h = sym (rw (← en, ne_eqb (n - at) (length t) h) (and_false (stands t s at)))

-- ---- the name at a position, as the part of s up to its end
module _ (s : List ℕ) (b e : ℕ) (ee : e ≡ name_end s b) where
  pub name_part : name_at s b ≡ take (e - b) (drop b s)
  name_part = rw ee

  pub name_past : length s < e → name_at s b ≡ []
  name_past h =
      let g : length s ≤ b = inside (length s) b (λ k. absurd (omega (arith, name_most s b (omega arith)))) (λ k. k) in
      rw (drop_of_length-le s g) (take-nil (name_end s b - b))
