-- The file that is written of given tables, and which tables have one.
-- Assumes nothing.
use Rattle.std.specs.Prelude.{ℕ, zero, suc, ◌+◌, ◌/◌, ◌%◌, Bool, true, List, [], ◌∷◌, ◌++◌, leb, ltb, length}
use Prim.Native.Char.{code}
use Rattle.text_scan.specs.Choice.{pick, ◌and◌}
use Rattle.text_scan.specs.Lists.{every}
use Rattle.xml_reader.specs.Limits.{row_limit, rows_limit}
use Rattle.table_lines.specs.Lines.{Row, other, are_fields}
use Rattle.table_file.specs.Accepted.{is_of, Tables}
use Rattle.table_file.specs.declared.Kind.{Kind}

-- ---- what is written
-- the digit of a number below 10
abbrev pub digit : ℕ → List ℕ
digit n = (n + code "0") ∷ []

-- a number in decimal, in at most k + 1 digits
unfoldable pub digits : ℕ → ℕ → List ℕ
digits zero n = digit n
digits (suc k) n =
    let more = digits k (n / 10) in
    pick (ltb n 10) (digit n) (more ++ digit (n % 10))

-- a number has fewer digits than it counts
abbrev pub decimal : ℕ → List ℕ
decimal n = digits n n

-- fields parted by one tab
unfoldable pub line_of : Row → List ℕ
line_of [] = []
line_of (f ∷ []) = f
line_of (f ∷ g ∷ fs) = f ++ code "\t" ∷ line_of (g ∷ fs)

-- each row on a line
unfoldable pub written_rows : List Row → List ℕ
written_rows [] = []
written_rows (row ∷ rows) = line_of row ++ code "\n" ∷ written_rows rows

-- the count on a line, then the rows
unfoldable pub written_section : List Row → List ℕ
written_section rows = decimal (length rows) ++ code "\n" ∷ written_rows rows

unfoldable pub written : Tables → List ℕ
written t = written_section t.codes ++ (written_section t.names ++ written_section t.history)

-- ---- what can be written
-- a field has any bytes but tab, line feed and, by `are_fields`, carriage return
abbrev pub is_field_byte : ℕ → Bool
is_field_byte b = other (code "\t") b and other (code "\n") b

unfoldable pub are_plain : Row → Bool
are_plain [] = true
are_plain (f ∷ fs) = every is_field_byte f and are_plain fs

unfoldable pub is_good_row : Kind → Row → Bool
is_good_row kind row = are_plain row and leb (length (line_of row)) row_limit and are_fields row and is_of kind row

unfoldable pub are_good_rows : Kind → List Row → Bool
are_good_rows kind [] = true
are_good_rows kind (row ∷ rows) = is_good_row kind row and are_good_rows kind rows

-- at most 65,535 rows, each good
abbrev pub is_good_section : Kind → List Row → Bool
is_good_section kind rows = leb (length rows) rows_limit and are_good_rows kind rows

unfoldable pub is_good : Tables → Bool
is_good t =
    is_good_section Kind.CodeList t.codes
    and is_good_section Kind.Register t.names
    and is_good_section Kind.History t.history
