-- The run that the rows of each section are looked up in, and what is known of the keys of the document's set id. For the code's own functions:
-- it changes no answer.
-- Assumes nothing.
use Rattle.std.specs.Prelude.{ℕ, ◌*◌, ◌<◌, ◌+◌, Bool, List, [], ◌≡◌, eqb, leb, ltb, length, take, drop}
use Rattle.xml_reader.specs.Limits.{rows_limit}
use Rattle.text_scan.specs.Choice.{pick, ◌and◌}
use Rattle.text_scan.specs.Bytes.{text}
use Rattle.table_index.specs.declared.Lookup.TheVariants.{Code, Name, KeyElsewhere}
use Rattle.table_sets.specs.declared.Keys.{Keys}
use Rattle.table_index.specs.Indexed.{keeps_row, Serves}
use Rattle.table_sets.specs.SetKeys.{keys_of}
use Rattle.judge_paths.specs.declared.DocumentType.{DocumentType}
use Rattle.judge_paths.specs.declared.DocumentType.TheVariants.{Neither, Registration, Request}
use Rattle.judge_draft.specs.Drafts.{Draft, attribute}
use Rattle.judge_header.specs.Header.{request_code}
use Rattle.judge_answers.specs.declared.Places.{Places}
use Rattle.judge_answers.specs.Answers.{type_code}

-- one run has the places of the code list's rows, then those of the register's, then those of the keys', in as much room each; a shorter run has none
abbrev pub room : ℕ
room = rows_limit + 1

unfoldable pub run_of : List ℕ → ℕ → List ℕ
run_of x i = pick (leb (3 * room) (length x)) (take room (drop (i * room) x)) []

abbrev pub CodesServed : List ℕ → Places → List ℕ → Type 0
CodesServed s p x = Serves Code (keeps_row Code [] []) s p.codes p.ncodes x

abbrev pub NamesServed : List ℕ → Places → List ℕ → Type 0
NamesServed s p x = Serves Name (keeps_row Name [] []) s p.names p.nnames x

-- the keys of rows of this type under another set id
abbrev pub KeysServed : List ℕ → List ℕ → List ℕ → Places → List ℕ → Type 0
KeysServed type set s p x = Serves KeyElsewhere (keeps_row KeyElsewhere type set) s p.history p.nhistory x

-- a number for each type, by which types are compared
abbrev pub type_number : DocumentType → ℕ
type_number Neither = 0
type_number Registration = 1
type_number Request = 2

-- what the places tell of the keys of rows with the set id
abbrev pub keys_at : Places → Keys
keys_at p = record { first = p.first; several = p.several }

pub record KeysTold (set s : List ℕ) (p : Places) (x : List ℕ) : Type 0 where
  pub told : 0 < length x → keys_at p ≡ keys_of request_code set s p.history p.nhistory

-- something is told of the setId s
abbrev pub is_told : Places → List ℕ → ℕ → Bool
is_told p x s = eqb p.set s and ltb 0 (length x)

-- the run serves the rows at these places, and the keys of rows of their type and set id
pub record Served (d : Draft) (s : List ℕ) (p : Places) (x : List ℕ) : Type 0 where
  pub code_list : CodesServed s p (run_of x 0)
  pub register : NamesServed s p (run_of x 1)
  pub elsewhere : KeysServed (type_code p.kind) (attribute d p.set (text "root")) s p (run_of x 2)
  pub others : KeysTold (attribute d p.set (text "root")) s p (run_of x 2)
