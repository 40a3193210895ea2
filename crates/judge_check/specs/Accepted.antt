-- A check that is not refused, in the words of the laws about it.
-- Assumes nothing.
use Rattle.std.specs.Prelude.{ℕ, ◌/◌, ◌≤◌, ◌≡◌, List, length}
use Rattle.list_findings.specs.declared.Finding.{Finding}
use Rattle.list_findings.specs.Findings.{width, filled}
use Rattle.table_file.specs.Accepted.{tables_of}
use Rattle.xml_steps.specs.Reading.{elements}
use Rattle.xml_elements.specs.Elements.{elements_of}
use Rattle.judge_findings.specs.Listed.{findings_of}
use Rattle.judge_type.specs.Drafted.{draft_of}

-- the findings of a document with these rows under a file
unfoldable pub found_in : List ℕ → List ℕ → List ℕ → List Finding
found_in document rows file = findings_of (draft_of document rows) (tables_of file)

-- the document was read, and so many findings stand in the front of the list
pub record Accepted (document file list : List ℕ) (n : ℕ) (after : List ℕ) : Type 0 where
  pub count : ℕ
  pub rows : List ℕ
  pub read : elements_of document ≡ elements count rows
  pub many : n ≡ length (found_in document rows file)
  pub room : length (found_in document rows file) ≤ length list / width
  pub holds : after ≡ filled (found_in document rows file) list
