-- The small program (document 01, "What the desk hands in"): the check within its rooms, and what is printed of an answer.
-- Assumes nothing.
use Rattle.std.specs.Prelude.{ℕ, ◌≡◌, List, [], ◌++◌, ltb, length, replicate, Result, Ok, Err}
use Rattle.refusals.specs.declared.Reason.TheVariants.{LongDocument, LongTables}
use Rattle.refusals.specs.declared.Refusal.{Refusal}
use Rattle.refusals.specs.Numbers.{number_of}
use Rattle.text_scan.specs.Choice.{pick}
use Rattle.xml_reader.specs.Limits.{scratch_limit}
use Rattle.judge_check.specs.Check.{Outcome, refuse, check_of}
use Rattle.program_texts.specs.Texts.{Put, count_text, finding_lines, refusal_text}

-- the most bytes of a document, and of tables
abbrev pub limit : ℕ
limit = 65536

-- a document over the limit is refused before anything else, then tables over it; all others are checked
unfoldable pub small_of : List ℕ → List ℕ → List ℕ → List ℕ → Outcome
small_of document file table list =
    pick (ltb limit (length document)) (refuse [] table list LongDocument limit)
    (pick (ltb limit (length file)) (refuse [] table list LongTables limit)
    (check_of document file (replicate scratch_limit 0) table list))

-- what is answered, and left in element table and list, is an outcome
pub record AnswerLeft (x : Outcome) (answer : Result ℕ Refusal) (table list : List ℕ) : Type 0 where
  pub answers : answer ≡ x.answer
  pub tables : table ≡ x.table
  pub lists : list ≡ x.list

-- the text of an answer, with the findings of a list
unfoldable pub printed : Result ℕ Refusal → List ℕ → List ℕ
printed (Ok n) list = count_text n ++ finding_lines list 0 n
printed (Err refusal) list = refusal_text (number_of refusal.reason) refusal.value

-- what is printed, in the front of a room, and left in element table and list, is an outcome
pub record Prints (x : Outcome) (r : ℕ) (table list old out : List ℕ) : Type 0 where
  pub prints : Put old 0 (printed x.answer x.list) r out
  pub tables : table ≡ x.table
  pub lists : list ≡ x.list
