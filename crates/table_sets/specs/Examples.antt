-- Worked examples of the keys of a set id, which the checker computes.
-- Assumes nothing.
use Rattle.std.specs.Prelude.{ℕ, true, false, List, [], ◌∷◌, map, ◌≡◌, refl}
use Rattle.text_scan.specs.Bytes.{text}
use Rattle.text_scan.specs.Lists.{pairs, run_end}
use Rattle.text_facts.specs.Strings.{equal}
use Rattle.table_lines.specs.Lines.{fields_of, rows_at}
use Rattle.table_rows.specs.Rows.{some_row, is_other_key}
use Rattle.table_sets.specs.SetKeys.{is_of_set, first_row, keys_of}

-- of set id s the first row starts at 10, and another row has another key; u has one key; v has no row, so that its first is the length
abbrev history : List ℕ
history = text "1\tu\t2\td\t5\n1\ts\t2\td\t7\n1\ts\t3\te\t8\n"

sets : map (λ (set : List ℕ). keys_of (text "1") set history 0 3) (text "s" ∷ text "u" ∷ text "v" ∷ [])
    ≡ record { first = 10; several = true } ∷ record { first = 0; several = false } ∷ record { first = 30; several = false } ∷ []
unfolding pairs run_end equal fields_of rows_at some_row is_other_key is_of_set first_row keys_of
sets = refl
