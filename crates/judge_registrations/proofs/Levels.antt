-- The organisations below one another, 31 and 32: one law for each branch of the code.
-- Assumes nothing.
use Rattle.std.specs.Prelude.{Option, None, Some, ℕ}
use mathlib.Core.Path.{◌≡◌, ◌∙◌}
use mathlib.Core.Bool.{Bool, true, false}
use Prim.Native.Nat.{ℕ}
use Rattle.judge_paths.specs.Roles.{Labeler, Registrant, Establishment}
use Rattle.judge_tests.specs.declared.Test.TheVariants.{Any}
use Rattle.judge_draft.specs.Drafts.{Draft, is, is_empty}
use Rattle.judge_below.specs.Chosen.{chosen, wanted, only_one}
use Rattle.judge_registrations.specs.Registrations.{breaks31, breaks32}

-- ---- 31
module _ (d : Draft) (n : ℕ) (a : Bool) (e : a ≡ is d Labeler n) where
  pub other_31 : a ≡ false → false ≡ breaks31 d n
  unfolding breaks31
  other_31 f = rw (← e, f)

  module _ (f : a ≡ true) (x : Option ℕ) (g : x ≡ only_one (chosen d (wanted Registrant 2 Any) n)) where
    pub none_31 : x ≡ None → true ≡ breaks31 d n
    unfolding breaks31
    none_31 h = rw (← e, f, ← g, h)

    pub one_31 : (k : ℕ) → x ≡ Some k → false ≡ breaks31 d n
    unfolding breaks31
    one_31 k h = rw (← e, f, ← g, h)

-- ---- 32
module _ (d : Draft) (n : ℕ) (a : Bool) (e : a ≡ is d Registrant n) where
  pub other_32 : a ≡ false → false ≡ breaks32 d n
  unfolding breaks32
  other_32 f = rw (← e, f)

  pub none_32 : a ≡ true → (r : Bool) → r ≡ is_empty (chosen d (wanted Establishment 2 Any) n) → r ≡ breaks32 d n
  unfolding breaks32
  none_32 f r g = g ∙ rw (← e, f)
