-- Worked examples of `accepted` and `tables_of`, which the checker computes.
-- Assumes nothing.
use Rattle.std.specs.Prelude.{ℕ, ◌≡◌, refl, Result, Ok, Err, List, [], ◌∷◌, ◌++◌, map, replicate}
use Rattle.text_scan.specs.Bytes.{text}
use Rattle.text_scan.specs.Lists.{every, run_end}
use Rattle.text_numbers.specs.Numbers.{value_after, version_of}
use Rattle.table_lines.specs.Lines.{fields_of, rows_at, are_fields}
use Rattle.table_file.specs.declared.Sections.{Sections}
use Rattle.table_file.specs.declared.BadLine.{BadLine}
use Rattle.table_file.specs.Accepted.{is_of, is_row, is_count, count_of, refused_at, rows_end, section_at, accepted, tables_of}

-- a file, and what it is
pub data Case : Type 0 where
  is : List ℕ → Result Sections BadLine → Case

abbrev pub file : Case → List ℕ
file (is s a) = s

abbrev pub answer : Case → Result Sections BadLine
answer (is s a) = a

-- a register of one row, of n bytes and two before them
abbrev long : ℕ → List ℕ
long n = text "0\n1\na\t" ++ replicate n 98 ++ text "\n0\n"

-- where the rows of each section start, and how many there are
abbrev stand : ℕ → ℕ → ℕ → ℕ → ℕ → ℕ → Result Sections BadLine
stand c cs r rs h hs =
    Ok (record {
      codes = record { first = c; count = cs };
      names = record { first = r; count = rs };
      history = record { first = h; count = hs };
    })

abbrev refused : ℕ → Result Sections BadLine
refused i = Err (refused_at i)

pub cases : List Case
cases =
    -- no rows; any bytes in a field; a version with leading zeros; a row of 4,096 bytes
    is (text "0\n0\n0\n") (stand 2 0 4 0 6 0)
    ∷ is (text "1\n" ++ 255 ∷ 254 ∷ text "\t\0\t \n0\n0\n") (stand 2 1 11 0 13 0)
    ∷ is (text "0\n0\n1\nt\ts\t000000001\td\tk\n") (stand 2 0 4 0 6 1)
    ∷ is (long 4094) (stand 2 0 4 1 4103 0)
    -- bad counts: none, a leading zero, a sign, a carriage return, one too many
    ∷ is (text "\n0\n0\n") (refused 0)
    ∷ is (text "00\n0\n0\n") (refused 0)
    ∷ is (text "+1\na\tb\tc\n0\n0\n") (refused 0)
    ∷ is (text "0\r\n0\n0\n") (refused 0)
    ∷ is (text "65536\n") (refused 0)
    -- bad rows: an empty field, a field too few, one too many, a carriage return, a count for a row, version 0, ten digits, 4,097 bytes
    ∷ is (text "1\na\t\tb\n0\n0\n") (refused 2)
    ∷ is (text "1\na\tb\n0\n0\n") (refused 2)
    ∷ is (text "0\n1\na\tb\tc\n0\n") (refused 4)
    ∷ is (text "0\n1\na\tb\r\n0\n") (refused 4)
    ∷ is (text "0\n2\na\tb\n0\n") (refused 8)
    ∷ is (text "0\n0\n1\nt\ts\t000\td\tk\n") (refused 6)
    ∷ is (text "0\n0\n1\nt\ts\t1234567890\td\tk\n") (refused 6)
    ∷ is (long 4095) (refused 4)
    -- a line that is not there, or lacks its line feed, good or bad
    ∷ is [] (refused 0)
    ∷ is (text "0") (refused 1)
    ∷ is (text "0\n0\n") (refused 4)
    ∷ is (text "1\na\tb\tc\n0\n1\nbad") (refused 15)
    -- something follows, with its line feed or without
    ∷ is (text "0\n0\n0\n\n") (refused 6)
    ∷ is (text "0\n0\n0\nx") (refused 6)
    ∷ []

pub cases_hold : map (λ (c : Case). accepted (file c)) cases ≡ map answer cases
unfolding cases every run_end value_after version_of fields_of are_fields is_of is_row is_count count_of rows_end section_at accepted
cases_hold = refl

-- the rows, field by field
pub rows_hold : tables_of (text "1\na\tb\tc\n2\nd\te\nf\tg\n0\n")
    ≡ record {
      codes = (text "a" ∷ text "b" ∷ text "c" ∷ []) ∷ [];
      names = (text "d" ∷ text "e" ∷ []) ∷ (text "f" ∷ text "g" ∷ []) ∷ [];
      history = [];
    }
unfolding every run_end value_after version_of fields_of are_fields is_of is_row is_count count_of rows_end section_at accepted rows_at tables_of
rows_hold = refl
