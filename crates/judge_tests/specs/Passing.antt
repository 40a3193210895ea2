-- The tests that an element which a procedure counts is put to, with the texts that document 01 names.
-- Assumes nothing.
use Rattle.std.specs.Prelude.{ℕ, Bool, true, List}
use Rattle.text_scan.specs.Bytes.{text}
use Rattle.judge_tests.specs.declared.Test.{Test}
use Rattle.judge_tests.specs.declared.Test.TheVariants.{Any, DunsRoot, LabelerRoot, Telephone, Mail, Agent, Import, Empty}
use Rattle.judge_draft.specs.Drafts.{Draft, said, is_empty, attribute_is, value_begins}

abbrev pub duns_root : List ℕ
duns_root = text "1.3.6.1.4.1.519.1"

abbrev pub labeler_root : List ℕ
labeler_root = text "2.16.840.1.113883.6.69"

abbrev pub agent_code : List ℕ
agent_code = text "C73330"

abbrev pub import_code : List ℕ
import_code = text "C73599"

unfoldable pub passes : Draft → Test → ℕ → Bool
passes d Any k = true
passes d DunsRoot k = attribute_is d (text "root") duns_root k
passes d LabelerRoot k = attribute_is d (text "root") labeler_root k
passes d Telephone k = value_begins d (text "tel:") k
passes d Mail k = value_begins d (text "mailto:") k
passes d Agent k = attribute_is d (text "code") agent_code k
passes d Import k = attribute_is d (text "code") import_code k
passes d Empty k = is_empty (said d k)
