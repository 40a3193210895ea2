-- Demand 2, of the list that a check of a document under a file leaves, with n findings.
-- Assumes nothing.
use Rattle.std.specs.Prelude.{ℕ, ◌≡◌, Bool, true, false, List}
use Rattle.list_findings.specs.declared.Finding.{Finding}
use Rattle.list_findings.specs.Findings.{first_records}
use Rattle.list_findings.specs.Lists.{has}
use Rattle.table_file.specs.Accepted.{tables_of}
use Rattle.xml_steps.specs.Reading.{elements}
use Rattle.xml_elements.specs.Elements.{elements_of}
use Rattle.judge_header.specs.Header.{header_of}
use Rattle.judge_findings.specs.Listed.{finding, broken}
use Rattle.judge_findings.specs.Holding.{Judged, Holds}
use Rattle.judge_type.specs.Drafted.{draft_of}

-- procedure p is broken at element k of a document with this element table, under the tables of a file
abbrev pub broken_in : List ℕ → List ℕ → List ℕ → ℕ → ℕ → Bool
broken_in document rows file k p = broken (draft_of document rows) (header_of (draft_of document rows)) (tables_of file) k p

pub record Right (document file : List ℕ) (n : ℕ) (list : List ℕ) : Type 0 where
  -- the document was read
  pub count : ℕ
  pub rows : List ℕ
  pub read : elements_of document ≡ elements count rows
  -- the record of a procedure and an element stands there exactly if the procedure is broken there, and no other record does
  pub exactly : (k p : ℕ) → Judged (draft_of document rows) k p → has (finding (draft_of document rows) k p) (first_records list n) ≡ broken_in document rows file k p
  pub only : (r : Finding) → has r (first_records list n) ≡ true → Holds (draft_of document rows) (broken_in document rows file) r
  -- n is 0 exactly if nothing is broken
  pub empty : n ≡ 0 → (k p : ℕ) → Judged (draft_of document rows) k p → broken_in document rows file k p ≡ false
  pub clean : ((k p : ℕ) → Judged (draft_of document rows) k p → broken_in document rows file k p ≡ false) → n ≡ 0
