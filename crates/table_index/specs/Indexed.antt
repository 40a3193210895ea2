-- What it means that the rows of a section are indexed: their places stand in a run in order, and a key is had by some row exactly where some place
-- in the run has it; and which run `fill` leaves, which is such an index. No definition of document 01: `some_row` of table_search asks for an index, and
-- it changes no answer.
-- Assumes nothing.
use Rattle.std.specs.Prelude.{ℕ, zero, suc, ◌+◌, ◌<◌, ◌≤◌, ◌^◌, Bool, true, List, [], ◌∷◌, ◌++◌, ◌≡◌, eqb, ltb, length, take, drop, get_or}
use Rattle.text_scan.specs.Choice.{pick, ◌and◌, not}
use Rattle.text_scan.specs.Lists.{pairs, some}
use Rattle.text_facts.specs.Strings.{equal}
use Rattle.xml_reader.specs.Limits.{rows_limit}
use Rattle.table_lines.specs.Lines.{Row, field, fields_of, line_at, line_end, rows_at}
use Rattle.table_rows.specs.declared.Question.{Question}
use Rattle.table_rows.specs.Rows.{some_row}
use Rattle.sort_compare.specs.declared.By.{By}
use Rattle.sort_compare.specs.Fields.{shown, skip_place, coded}
use Rattle.sort_compare.specs.Keys.{key_at}
use Rattle.sort_places.specs.Sorting.{rising, Sorted}
use Rattle.table_index.specs.declared.Lookup.{Lookup}

-- ---- the questions whose rows are indexed, and what these are ordered by
abbrev pub asks : Lookup → Question
asks Lookup.Code = Question.Code
asks Lookup.Name = Question.Name
asks Lookup.KeyElsewhere = Question.KeyElsewhere

unfoldable pub by_of : Lookup → By
by_of Lookup.Code = By.Code
by_of Lookup.Name = By.Register
by_of Lookup.KeyElsewhere = By.Key

-- the rows that an index keeps: of a history only those of this type under another set id, else all
unfoldable pub keeps_row : Lookup → List ℕ → List ℕ → Row → Bool
keeps_row Lookup.Code a c row = true
keeps_row Lookup.Name a c row = true
keeps_row Lookup.KeyElsewhere a c row = equal (field row 0) a and not (equal (field row 1) c)

-- ---- keys
-- of the values that are asked for: all three, the last in any case of letters; the first two; the second
unfoldable pub key_from : Lookup → List ℕ → List ℕ → List ℕ → List ℕ
key_from Lookup.Code a b c = coded (a ∷ b ∷ shown true c ∷ [])
key_from Lookup.Name a b c = coded (a ∷ b ∷ [])
key_from Lookup.KeyElsewhere a b c = coded (b ∷ [])

-- of a row: of the fields that are compared with these values
unfoldable pub key_of : Lookup → Row → List ℕ
key_of Lookup.Code row = key_from Lookup.Code (field row 0) (field row 1) (field row 2)
key_of Lookup.Name row = key_from Lookup.Name (field row 0) (field row 1) []
key_of Lookup.KeyElsewhere row = key_from Lookup.KeyElsewhere [] (field row 4) []

-- a row that is kept has this key; what stands at a place has it
abbrev pub has_key : Lookup → (Row → Bool) → List ℕ → Row → Bool
has_key q keeps k row = keeps row and pairs eqb (key_of q row) k

abbrev pub is_key_of : Lookup → List ℕ → List ℕ → ℕ → Bool
is_key_of q s k i = pairs eqb (key_at (by_of q) s i) k

-- ---- places
-- where that starts which the row at i is ordered by
unfoldable pub key_place : Lookup → List ℕ → ℕ → ℕ
key_place Lookup.Code s i = i
key_place Lookup.Name s i = i
key_place Lookup.KeyElsewhere s i = skip_place s (skip_place s (skip_place s (skip_place s i)))

-- the places of the rows that are kept, of n rows from i on, as the file has them
unfoldable pub places_at : Lookup → (Row → Bool) → List ℕ → ℕ → ℕ → List ℕ
places_at q keeps s i zero = []
places_at q keeps s i (suc n) = pick (ltb i (length s)) (pick (keeps (fields_of (line_at s i))) (key_place q s i ∷ []) [] ++ places_at q keeps s (line_end s i + 1) n) []

-- the places have the keys of the rows that are kept, and no others
pub record Collected (q : Lookup) (keeps : Row → Bool) (s : List ℕ) (at count : ℕ) (places : List ℕ) : Type 0 where
  pub same : (k : List ℕ) → some_row (has_key q keeps k) (rows_at s at count) ≡ some (is_key_of q s k) places

-- ---- the run: first how many places it has, then the places
abbrev pub places_in : List ℕ → List ℕ
places_in x = take (get_or x 0 0) (drop 1 x)

-- the count rows of the section at `at` of s are indexed by x
pub record Indexed (q : Lookup) (keeps : Row → Bool) (s : List ℕ) (at count : ℕ) (x : List ℕ) : Type 0 where
  pub fits : get_or x 0 0 < length x
  pub rises : rising (key_at (by_of q) s) (places_in x) ≡ true
  pub rows : Collected q keeps s at count (places_in x)

-- y is what `fill` leaves of the run x: how many places there are, the places sorted, and behind them what stood there (one run: law `one_fill`)
pub record IndexLeft (q : Lookup) (keeps : Row → Bool) (s : List ℕ) (at count : ℕ) (x y : List ℕ) : Type 0 where
  pub places : List ℕ
  pub sorted : Sorted (key_at (by_of q) s) (places_at q keeps s at count) places
  pub left : y ≡ length places ∷ places ++ drop (1 + length places) x

-- a run with numbers in it is an index of the section; an empty one is not asked
pub record Serves (q : Lookup) (keeps : Row → Bool) (s : List ℕ) (at count : ℕ) (x : List ℕ) : Type 0 where
  pub index : 0 < length x → Indexed q keeps s at count x

-- a run has room for an index of so many rows, and its numbers for their places
pub record Room (s : List ℕ) (count : ℕ) (x : List ℕ) : Type 0 where
  pub long : count < length x
  pub few : count ≤ rows_limit
  pub small : length s < 2 ^ 32
