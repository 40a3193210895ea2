-- The tables file, and refusal 4: what `accept` answers for any bytes.
-- Assumes nothing.
use Rattle.std.specs.Prelude.{ℕ, zero, suc, ◌+◌, Bool, true, false, Option, Some, None, Result, Ok, Err, List, [], eqb, leb, ltb, length, get_or}
use Prim.Native.Char.{code}
use Rattle.text_scan.specs.Choice.{pick, ◌or◌, ◌and◌, not}
use Rattle.text_scan.specs.Bytes.{is_digit}
use Rattle.text_scan.specs.Lists.{every}
use Rattle.text_numbers.specs.Numbers.{decimal_of, version_of}
use Rattle.xml_reader.specs.Limits.{row_limit, rows_limit}
use Rattle.table_lines.specs.Lines.{Row, field, fields_of, are_fields, line_end, has_feed, line_at, rows_at}
use Rattle.table_file.specs.declared.Kind.{Kind}
use Rattle.table_file.specs.declared.Rows.{Rows}
use Rattle.table_file.specs.declared.Section.{Section}
use Rattle.table_file.specs.declared.Sections.{Sections}
use Rattle.table_file.specs.declared.BadLine.{BadLine}

-- ---- a row
-- Code list: code, code system, display name. Register: DUNS number, name.
-- History: type, set id, version (1 to 9 digits, above 0), document id, key
unfoldable pub is_of : Kind → Row → Bool
is_of Kind.CodeList row = eqb (length row) 3
is_of Kind.Register row = eqb (length row) 2
is_of Kind.History row = eqb (length row) 5 and ltb 0 (version_of (field row 2))

-- the row of a section, of at most 4,096 bytes
unfoldable pub is_row : Kind → List ℕ → Bool
is_row kind line = leb (length line) row_limit and are_fields (fields_of line) and is_of kind (fields_of line)

-- ---- a count
-- decimal, no leading zero, at most 65,535
unfoldable pub is_count : List ℕ → Bool
is_count line =
    not (eqb (length line) 0) and every is_digit line and (eqb (length line) 1 or not (eqb (get_or line 0 0) (code "0")))
    and leb (decimal_of line) rows_limit

unfoldable pub count_of : List ℕ → Option ℕ
count_of line = pick (is_count line) (Some (decimal_of line)) None

-- ---- a section
abbrev pub refused_at : ℕ → BadLine
refused_at i = record { place = i }

-- n rows from the line at i on: the place after them, or that of the first bad line, which is the length if the line lacks its line feed
unfoldable pub rows_end : Kind → List ℕ → ℕ → ℕ → Result ℕ BadLine
rows_end kind s i zero = Ok i
rows_end kind s i (suc n) =
    pick (has_feed s i)
    (pick (is_row kind (line_at s i)) (rows_end kind s (line_end s i + 1) n) (Err (refused_at i)))
    (Err (refused_at (length s)))

-- what follows a count line: its rows, or that line's own place where it is bad
abbrev pub rows_of : ℕ → ℕ → Result ℕ BadLine → Result Section BadLine
rows_of first count (Ok i) = Ok (record { rows = record { first = first; count = count }; after = i })
rows_of first count (Err e) = Err e

abbrev pub counted_at : Kind → List ℕ → ℕ → Option ℕ → Result Section BadLine
counted_at kind s i (Some n) = rows_of (line_end s i + 1) n (rows_end kind s (line_end s i + 1) n)
counted_at kind s i None = Err (refused_at i)

-- a section at i: its count on a line, then that many rows
unfoldable pub section_at : Kind → List ℕ → ℕ → Result Section BadLine
section_at kind s i = pick (has_feed s i) (counted_at kind s i (count_of (line_at s i))) (Err (refused_at (length s)))

-- ---- the file
-- what follows each section: the next one, or the end of the file
abbrev pub after_history : List ℕ → Section → Section → Result Section BadLine → Result Sections BadLine
after_history s c r (Ok h) =
    pick (eqb h.after (length s)) (Ok (record { codes = c.rows; names = r.rows; history = h.rows })) (Err (refused_at h.after))
after_history s c r (Err e) = Err e

abbrev pub after_register : List ℕ → Section → Result Section BadLine → Result Sections BadLine
after_register s c (Ok r) = after_history s c r (section_at Kind.History s r.after)
after_register s c (Err e) = Err e

abbrev pub after_code_list : List ℕ → Result Section BadLine → Result Sections BadLine
after_code_list s (Ok c) = after_register s c (section_at Kind.Register s c.after)
after_code_list s (Err e) = Err e

-- three sections in this order, and nothing follows
unfoldable pub accepted : List ℕ → Result Sections BadLine
accepted s = after_code_list s (section_at Kind.CodeList s 0)

-- ---- its tables
pub record Tables : Type 0 where
  pub codes : List Row
  pub names : List Row
  pub history : List Row

-- the rows where an answer says, and none in a file that is refused
abbrev pub rows_in : List ℕ → Rows → List Row
rows_in s r = rows_at s r.first r.count

abbrev pub tables_in : List ℕ → Result Sections BadLine → Tables
tables_in s (Ok t) = record { codes = rows_in s t.codes; names = rows_in s t.names; history = rows_in s t.history }
tables_in s (Err e) = record { codes = []; names = []; history = [] }

unfoldable pub tables_of : List ℕ → Tables
tables_of s = tables_in s (accepted s)

abbrev pub is_tables : Result Sections BadLine → Bool
is_tables (Ok t) = true
is_tables (Err e) = false

unfoldable pub is_accepted : List ℕ → Bool
is_accepted s = is_tables (accepted s)
