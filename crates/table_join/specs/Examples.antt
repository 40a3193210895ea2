-- Worked examples of what is written and joined, which the checker computes.
-- Assumes nothing.
use Rattle.std.specs.Prelude.{[], ◌∷◌, map, ◌≡◌, refl}
use Rattle.text_scan.specs.Bytes.{text}
use Rattle.text_scan.specs.Lists.{every, run_end}
use Rattle.text_numbers.specs.Numbers.{value_after, version_of}
use Rattle.table_lines.specs.Lines.{fields_of, rows_at, are_fields}
use Rattle.table_file.specs.Accepted.{is_of, is_row, is_count, count_of, rows_end, section_at, accepted, tables_of}
use Rattle.table_join.specs.Written.{digits, decimal, line_of, written_rows, written_section, written}
use Rattle.table_join.specs.Joins.{joined}

counts : map decimal (0 ∷ 9 ∷ 10 ∷ 65535 ∷ []) ≡ text "0" ∷ text "9" ∷ text "10" ∷ text "65535" ∷ []
unfolding digits
counts = refl

-- the first file's rows come first, in each section
both : joined (text "1\na\tb\tc\n0\n1\nt\ts\t1\td\tk\n") (text "1\nA\tB\tC\n1\nx\ty\n1\nt\ts\t2\te\tk\n")
    ≡ text "2\na\tb\tc\nA\tB\tC\n1\nx\ty\n2\nt\ts\t1\td\tk\nt\ts\t2\te\tk\n"
unfolding every run_end value_after version_of fields_of are_fields is_of is_row is_count count_of rows_end section_at accepted rows_at tables_of digits line_of written_rows written_section written joined
both = refl
