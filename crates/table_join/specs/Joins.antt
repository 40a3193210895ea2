-- Joining two files puts, in each section, the first file's rows before the second's.
-- Assumes nothing.
use Rattle.std.specs.Prelude.{ℕ, ◌+◌, ◌≤◌, true, List, ◌++◌, ◌≡◌, length}
use Rattle.xml_reader.specs.Limits.{rows_limit}
use Rattle.table_file.specs.Accepted.{Tables, tables_of, is_accepted}
use Rattle.table_join.specs.Written.{written}

abbrev pub join : Tables → Tables → Tables
join a b = record { codes = a.codes ++ b.codes; names = a.names ++ b.names; history = a.history ++ b.history }

-- the file c joins the files a and b
pub record Joins (c a b : List ℕ) : Type 0 where
  pub first : is_accepted a ≡ true
  pub second : is_accepted b ≡ true
  pub whole : is_accepted c ≡ true
  pub rows : tables_of c ≡ join (tables_of a) (tables_of b)

-- the joined counts stay within bounds
pub record Fit (a b : Tables) : Type 0 where
  pub codes : length a.codes + length b.codes ≤ rows_limit
  pub names : length a.names + length b.names ≤ rows_limit
  pub history : length a.history + length b.history ≤ rows_limit

-- the file that joins two files
unfoldable pub joined : List ℕ → List ℕ → List ℕ
joined a b = written (join (tables_of a) (tables_of b))
