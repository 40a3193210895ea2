-- Whether a demand is broken under the tables: the only place that reads a table.
-- Assumes nothing.
use Rattle.std.specs.Prelude.{ℕ, Bool, true, false, List, []}
use Rattle.text_scan.specs.Choice.{not}
use Rattle.text_scan.specs.Bytes.{text}
use Rattle.table_lines.specs.Lines.{rows_at}
use Rattle.table_file.specs.Accepted.{Tables}
use Rattle.table_rows.specs.Rows.{some_row, is_code, is_registered, is_document, is_version, is_key_elsewhere, is_other_key}
use Rattle.judge_paths.specs.declared.DocumentType.{DocumentType}
use Rattle.judge_paths.specs.declared.DocumentType.TheVariants.{Neither, Registration, Request}
use Rattle.judge_draft.specs.declared.Demand.{Demand}
use Rattle.judge_draft.specs.declared.Demand.TheVariants.{Nothing, Broken, CodeRow, NameRow, NoDocument, NoVersion, NoKeyElsewhere, NoOtherKey}
use Rattle.judge_draft.specs.Drafts.{Draft, attribute, said}
use Rattle.judge_header.specs.Header.{registration_code, request_code}
use Rattle.judge_answers.specs.declared.Places.{Places}

-- the tables of a file whose sections stand at these places
abbrev pub tables_at : List ℕ → Places → Tables
tables_at s p =
    record {
      codes = rows_at s p.codes p.ncodes;
      names = rows_at s p.names p.nnames;
      history = rows_at s p.history p.nhistory;
    }

-- the type as a row of the history has it
abbrev pub type_code : DocumentType → List ℕ
type_code Neither = []
type_code Registration = registration_code
type_code Request = request_code

-- a demand for a row is broken where there is none; one that forbids a row, where there is one
unfoldable pub is_broken : Draft → Tables → Demand → Bool
is_broken d t Nothing = false
is_broken d t Broken = true
is_broken d t (CodeRow k) =
    not
    (some_row (is_code (attribute d k (text "code")) (attribute d k (text "codeSystem")) (attribute d k (text "displayName")))
    t.codes)
is_broken d t (NameRow i k) = not (some_row (is_registered (attribute d i (text "extension")) (said d k)) t.names)
is_broken d t (NoDocument k) = some_row (is_document (attribute d k (text "root"))) t.history
is_broken d t (NoVersion s k) = some_row (is_version (attribute d s (text "root")) (attribute d k (text "value"))) t.history
is_broken d t (NoKeyElsewhere type k s) =
    some_row (is_key_elsewhere (type_code type) (attribute d k (text "extension")) (attribute d s (text "root"))) t.history
is_broken d t (NoOtherKey k s) =
    some_row (is_other_key request_code (attribute d s (text "root")) (attribute d k (text "extension"))) t.history
