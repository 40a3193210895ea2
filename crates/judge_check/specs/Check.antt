-- The check (document 01, "Refusal numbers"): refusals 1 to 11 in their order, or the findings; and what each leaves of the memory that is lent.
-- Assumes nothing.
use Rattle.std.specs.Prelude.{ℕ, ◌*◌, ◌≡◌, List, ◌++◌, leb, length, drop, Option, None, Some, Result, Ok, Err}
use Rattle.refusals.specs.declared.Reason.TheVariants.{ShortElements, LongValue}
use Rattle.refusals.specs.declared.Reason.{Reason}
use Rattle.refusals.specs.declared.Refusal.{Refusal}
use Rattle.refusals.specs.Numbers.{refuses}
use Rattle.judge_input.specs.declared.Sections.{Sections}
use Rattle.text_scan.specs.Choice.{pick}
use Rattle.table_file.specs.Accepted.{Tables, tables_of}
use Rattle.xml_steps.specs.Reading.{Read, refused, elements}
use Rattle.xml_elements.specs.Elements.{elements_of}
use Rattle.judge_input.specs.Input.{admitted}
use Rattle.judge_input.specs.Scratch.{cleared}
use Rattle.judge_findings.specs.Listed.{findings_of}
use Rattle.judge_type.specs.Drafted.{draft_of}
use Rattle.judge_findings.specs.Room.{answer_in, list_in}
use Rattle.judge_check.specs.Long.{long_value}

-- what a check answers, and what the scratch area, the element table and the findings list then hold
pub record Outcome : Type 0 where
  pub answer : Result ℕ Refusal
  pub scratch : List ℕ
  pub table : List ℕ
  pub list : List ℕ

-- 10: the first raw byte
abbrev pub unless_long : Option ℕ → List ℕ → List ℕ → List ℕ → Outcome → Outcome
unless_long (Some place) scratch table list otherwise = record { answer = refuses LongValue place; scratch = scratch; table = table; list = list }
unless_long None scratch table list otherwise = otherwise

-- a refusal leaves all as it was
abbrev pub refuse : List ℕ → List ℕ → List ℕ → Reason → ℕ → Outcome
refuse scratch table list number value = record { answer = refuses number value; scratch = scratch; table = table; list = list }

-- 5 to 8, and 9: elements needed. Then the table is filled, and the scratch area cleared
abbrev pub after_reading : List ℕ → Tables → List ℕ → List ℕ → List ℕ → Read → Outcome
after_reading document t scratch table list (refused number place) = refuse scratch table list number place
after_reading document t scratch table list (elements n rows) =
    pick (leb (4 * n) (length table))
    (unless_long (long_value document rows) (cleared scratch) (rows ++ drop (4 * n) table) list
    (record {
      answer = answer_in (findings_of (draft_of document rows) t) list;
      scratch = cleared scratch;
      table = rows ++ drop (4 * n) table;
      list = list_in (findings_of (draft_of document rows) t) list;
    }))
    (refuse scratch table list ShortElements n)

-- 1 to 4 come before the document is read
abbrev pub after_input : List ℕ → List ℕ → List ℕ → List ℕ → List ℕ → Result Sections Refusal → Outcome
after_input document file scratch table list (Err p) = refuse scratch table list p.reason p.value
after_input document file scratch table list (Ok sections) =
    after_reading document (tables_of file) scratch table list (elements_of document)

unfoldable pub check_of : List ℕ → List ℕ → List ℕ → List ℕ → List ℕ → Outcome
check_of document file scratch table list =
    after_input document file scratch table list (admitted document file (length scratch))

-- what is answered and left is an outcome
pub record CheckLeft (x : Outcome) (answer : Result ℕ Refusal) (scratch table list : List ℕ) : Type 0 where
  pub answers : answer ≡ x.answer
  pub scratches : scratch ≡ x.scratch
  pub tables : table ≡ x.table
  pub lists : list ≡ x.list
