-- Procedure 22 asks many times whether a row of one type and set id has another key. Two facts answer it: where the first row of them starts,
-- and whether some row of them has another key than that one. No definition of document 01: it is what `keys_of` promises and `has_other_key` asks for.
-- Assumes nothing.
use Rattle.std.specs.Prelude.{ℕ, zero, suc, ◌+◌, Bool, List, ltb, length}
use Rattle.text_scan.specs.Choice.{pick, ◌and◌}
use Rattle.text_facts.specs.Strings.{equal}
use Rattle.table_lines.specs.Lines.{Row, field, fields_of, line_at, line_end, rows_at}
use Rattle.table_rows.specs.Rows.{some_row, is_other_key}
use Rattle.table_sets.specs.declared.Keys.{Keys}

-- of this type with this set id
unfoldable pub is_of_set : List ℕ → List ℕ → Row → Bool
is_of_set type set row = equal (field row 0) type and equal (field row 1) set

-- where the first of the n rows from i on starts that passes the test, or the length of the file
unfoldable pub first_row : (Row → Bool) → List ℕ → ℕ → ℕ → ℕ
first_row p s i zero = length s
first_row p s i (suc n) = pick (ltb i (length s)) (pick (p (fields_of (line_at s i))) i (first_row p s (line_end s i + 1) n)) (length s)

-- the key of the row that starts at i
abbrev pub key_of_row : List ℕ → ℕ → List ℕ
key_of_row s i = field (fields_of (line_at s i)) 4

unfoldable pub keys_of : List ℕ → List ℕ → List ℕ → ℕ → ℕ → Keys
keys_of type set s at count =
    record {
      first = first_row (is_of_set type set) s at count;
      several = some_row (is_other_key type set (key_of_row s (first_row (is_of_set type set) s at count))) (rows_at s at count);
    }
