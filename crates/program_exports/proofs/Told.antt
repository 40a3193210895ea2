-- What the library answers, told in numbers.
-- Assumes nothing.
use Rattle.std.specs.Prelude.{Result, Ok, Err}
use Rattle.refusals.specs.declared.Refusal.{Refusal}
use Prim.Native.Nat.{ℕ}
use mathlib.Core.Path.{◌≡◌, sym, ap, ◌∙◌}
use mathlib.Core.List.{List}
use Rattle.list_findings.specs.Merge.{merge_of, IsMerged}
use Rattle.judge_check.specs.Check.{Outcome as Checking, CheckLeft}
use Rattle.xml_values.specs.declared.View.{View}
use Rattle.xml_values.specs.declared.View.TheVariants.{Document, Scratch}
use Rattle.xml_value_reader.specs.Shown.{ValueOutcome as Reading, Fills}
use Rattle.program_exports.specs.declared.Numbers.{Numbers}
use Rattle.program_exports.specs.declared.Part.{Part}
use Rattle.program_exports.specs.Numbers.{check_numbers, merge_numbers, shown_part, Checks, Merges, Reads}

-- ---- the check
pub check_told : (x : Checking) (answer : Result ℕ Refusal) (scratch table list : List ℕ) (r : Numbers) → CheckLeft x answer scratch table list → r ≡ check_numbers answer → Checks x r scratch table list
check_told x answer scratch table list r l e =
    record { answers = e ∙ ap check_numbers l.answers; scratches = l.scratches; tables = l.tables; lists = l.lists }

-- ---- the merge
pub merge_told : (a b out : List ℕ) (answer : Result ℕ Refusal) (after : List ℕ) (r : Numbers) → IsMerged a b out answer after → r ≡ merge_numbers answer → Merges (merge_of a b out) r after
merge_told a b out answer after r m e = record { answers = e ∙ ap merge_numbers m.answers; lists = m.leaves }

-- ---- the value reader
module _ (view : View) where
  pub in_document : (a e : ℕ) → view ≡ Document a e → ◌≡◌ {A = Part} (record { in_scratch = 0; first = a; after = e }) (shown_part view)
  in_document a e h = sym (ap shown_part h)

  pub in_scratch_lem : (n : ℕ) → view ≡ Scratch n → ◌≡◌ {A = Part} (record { in_scratch = 1; first = 0; after = n }) (shown_part view)
  in_scratch_lem n h = sym (ap shown_part h)

pub value_told : (x : Reading) (view : View) (after : List ℕ) (r : Part) → Fills x view after → r ≡ shown_part view → Reads x r after
value_told x view after r f e = record { answers = e ∙ ap shown_part f.answers; scratches = f.leaves }
