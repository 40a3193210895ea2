-- Operation codes, 33 and 34: one law for each branch of the code.
-- Assumes nothing.
use Rattle.std.specs.Prelude.{Option, None, Some, ℕ}
use mathlib.Core.Path.{◌≡◌, ◌∙◌}
use mathlib.Core.Bool.{Bool, true, false}
use Prim.Native.Nat.{ℕ}
use Rattle.text_scan.specs.Choice.{not}
use Rattle.text_scan.specs.Bytes.{text}
use Rattle.judge_paths.specs.Roles.{Entity4, OperationCode}
use Rattle.judge_draft.specs.declared.Demand.TheVariants.{CodeRow, Nothing as Free}
use Rattle.judge_tests.specs.declared.Test.TheVariants.{Any}
use Rattle.judge_draft.specs.Drafts.{Draft, is, attribute_is}
use Rattle.judge_tests.specs.Passing.{agent_code, import_code}
use Rattle.judge_below.specs.Chosen.{chosen, wanted, only_one}
use Rattle.judge_operations.specs.Operations.{of_nci, is_agency, breaks33, demand34}

-- ---- a code of the NCI system, agent or import
module _ (d : Draft) (n : ℕ) where
  pub nci_is : (r : Bool) → r ≡ attribute_is d (text "codeSystem") (text "2.16.840.1.113883.3.26.1.1") n → r ≡ of_nci d n
  unfolding of_nci
  nci_is r e = e

  module _ (a : Bool) (e : a ≡ of_nci d n) where
    pub agency_other : a ≡ false → false ≡ is_agency d n
    unfolding is_agency
    agency_other f = rw (← e, f)

    module _ (f : a ≡ true) (b : Bool) (g : b ≡ attribute_is d (text "code") agent_code n) where
      pub agency_agent : b ≡ true → true ≡ is_agency d n
      unfolding is_agency
      agency_agent h = rw (← e, f, ← g, h)

      pub agency_import : b ≡ false → (r : Bool) → r ≡ attribute_is d (text "code") import_code n → r ≡ is_agency d n
      unfolding is_agency
      agency_import h r i = i ∙ rw (← e, f, ← g, h)

-- ---- 33
module _ (d : Draft) (n : ℕ) (a : Bool) (e : a ≡ is d Entity4 n) where
  pub other_33 : a ≡ false → false ≡ breaks33 d n
  unfolding breaks33
  other_33 f = rw (← e, f)

  module _ (f : a ≡ true) (x : Option ℕ) (g : x ≡ only_one (chosen d (wanted OperationCode 3 Any) n)) where
    pub none_33 : x ≡ None → true ≡ breaks33 d n
    unfolding breaks33
    none_33 h = rw (← e, f, ← g, h)

    pub one_33 : (k : ℕ) → x ≡ Some k → (r : Bool) → r ≡ is_agency d k → not r ≡ breaks33 d n
    unfolding breaks33
    one_33 k h r i = rw (← e, f, ← g, h, ← i)

-- ---- 34
module _ (d : Draft) (n : ℕ) (a : Bool) (e : a ≡ is d OperationCode n) where
  pub row_34 : a ≡ true → CodeRow n ≡ demand34 d n
  unfolding demand34
  row_34 f = rw (← e, f)

  pub other_34 : a ≡ false → Free ≡ demand34 d n
  unfolding demand34
  other_34 f = rw (← e, f)
