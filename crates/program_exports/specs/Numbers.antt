-- What the exported functions return: document 01's number and value for each case of an answer, and the part that a view shows.
-- Assumes nothing.
use Rattle.std.specs.Prelude.{ℕ, ◌≡◌, List, get_or, Result}
use Rattle.refusals.specs.declared.Refusal.{Refusal}
use Rattle.text_scan.specs.Numbered.{Numbered}
use Rattle.list_findings.specs.Merge.{Merging}
use Rattle.list_findings.specs.Numbered.{numbered_merge}
use Rattle.judge_findings.specs.Numbered.{numbered_check}
use Rattle.judge_check.specs.Check.{Outcome as Checking}
use Rattle.xml_values.specs.declared.View.{View}
use Rattle.xml_values.specs.declared.View.TheVariants.{Document, Scratch}
use Rattle.xml_value_reader.specs.Shown.{ValueOutcome as Reading}
use Rattle.program_exports.specs.declared.Numbers.{Numbers}
use Rattle.program_exports.specs.declared.Part.{Part}

-- ---- the number of the interface
abbrev pub version : ℕ
version = 2

-- ---- the check and the merge: the refusal's number, 0 where nothing is refused, and what the refusal returns or how many findings there are
abbrev pub told : Numbered → Numbers
told x = record { refusal = x.number; value = get_or x.values 0 0 }

abbrev pub check_numbers : Result ℕ Refusal → Numbers
check_numbers answer = told (numbered_check answer)

abbrev pub merge_numbers : Result ℕ Refusal → Numbers
merge_numbers answer = told (numbered_merge answer)

-- ---- the value reader: a part of the document, or the front of the scratch area
abbrev pub shown_part : View → Part
shown_part (Document a e) = record { in_scratch = 0; first = a; after = e }
shown_part (Scratch n) = record { in_scratch = 1; first = 0; after = n }

-- ---- the contracts: what is returned, and what the lent memory then holds
pub record Checks (x : Checking) (numbers : Numbers) (scratch table list : List ℕ) : Type 0 where
  pub answers : numbers ≡ check_numbers x.answer
  pub scratches : scratch ≡ x.scratch
  pub tables : table ≡ x.table
  pub lists : list ≡ x.list

pub record Merges (x : Merging) (numbers : Numbers) (list : List ℕ) : Type 0 where
  pub answers : numbers ≡ merge_numbers x.answer
  pub lists : list ≡ x.list

pub record Reads (x : Reading) (part : Part) (scratch : List ℕ) : Type 0 where
  pub answers : part ≡ shown_part x.view
  pub scratches : scratch ≡ x.scratch
