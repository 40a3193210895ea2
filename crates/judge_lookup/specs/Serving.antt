-- When the rows are indexed, and what is told of the history's keys.
-- Assumes nothing.
use Rattle.std.specs.Prelude.{ℕ, zero, suc, ◌+◌, ◌*◌, ◌/◌, ◌<◌, ◌≤◌, Bool, List, [], ◌∷◌, ◌≡◌, leb, ltb, length, get_or}
use Rattle.text_scan.specs.Choice.{pick, ◌and◌}
use Rattle.text_scan.specs.Bytes.{text}
use Rattle.xml_reader.specs.Limits.{elements_limit, tables_limit, rows_limit}
use Rattle.table_sets.specs.SetKeys.{keys_of}
use Rattle.judge_paths.specs.declared.DocumentType.{DocumentType}
use Rattle.judge_paths.specs.Roles.{Code, OrganisationId, OrganisationName, OperationCode}
use Rattle.judge_paths.specs.Attributes.{is_role}
use Rattle.judge_draft.specs.Drafts.{Draft, attribute}
use Rattle.judge_header.specs.Header.{request_code}
use Rattle.judge_answers.specs.declared.Places.{Places}
use Rattle.judge_answers.specs.Served.{run_of}

-- the roles whose elements can ask for a row: codes, and the ids and names of organisations. Of all others only the id, the setId and the version
-- ask, once for a document each
abbrev pub asking_roles : List ℕ
asking_roles = Code ∷ OperationCode ∷ OrganisationId ∷ OrganisationName ∷ []

-- how many elements can, of the elements n, n + 1, .., m of them
unfoldable pub asking_from : List ℕ → ℕ → ℕ → ℕ
asking_from notes n zero = 0
asking_from notes n (suc m) = pick (is_role (get_or notes (4 * n) 0) asking_roles) (1 + asking_from notes (n + 1) m) (asking_from notes (n + 1) m)

abbrev pub asking : List ℕ → ℕ
asking notes = asking_from notes 0 (length notes / 4)

-- so many walks along the rows would take longer than an index, and the tables are of a size that is accepted
unfoldable pub is_large : ℕ → ℕ → Places → Bool
is_large count n p =
    leb count elements_limit and leb n tables_limit and leb p.ncodes rows_limit and leb p.nnames rows_limit
    and leb p.nhistory rows_limit and leb 24 count and ltb 262144 (count * n)

-- tables of a size that is accepted
pub record Sized (s : List ℕ) (p : Places) : Type 0 where
  pub bytes : length s ≤ tables_limit
  pub codes : p.ncodes ≤ rows_limit
  pub names : p.nnames ≤ rows_limit
  pub history : p.nhistory ≤ rows_limit

-- a run has room for so many rows of the tables
abbrev pub Fitting : List ℕ → ℕ → List ℕ → Type 0
Fitting s count x = (count < length x) × (count ≤ rows_limit) × (length s ≤ tables_limit)

-- all parts but that of number i are left as they were
pub record Kept (i : ℕ) (x y : List ℕ) : Type 0 where
  pub part : (j : ℕ) → (j ≡ i → ⊥) → run_of y j ≡ run_of x j

-- the places, with the type and the keys of the set id of element `set`
unfoldable pub told_at : Draft → List ℕ → Places → DocumentType → ℕ → Places
told_at d s p type set =
    record {
      codes = p.codes;
      ncodes = p.ncodes;
      names = p.names;
      nnames = p.nnames;
      history = p.history;
      nhistory = p.nhistory;
      kind = type;
      set = set;
      first = (keys_of request_code (attribute d set (text "root")) s p.history p.nhistory).first;
      several = (keys_of request_code (attribute d set (text "root")) s p.history p.nhistory).several;
    }
