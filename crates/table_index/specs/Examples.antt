-- Worked examples of the keys of rows, which the checker computes.
-- Assumes nothing.
use Rattle.std.specs.Prelude.{ℕ, true, false, List, [], ◌∷◌, map, ◌≡◌, refl}
use Rattle.text_scan.specs.Bytes.{text}
use Rattle.text_scan.specs.Lists.{pairs, run_end}
use Rattle.text_facts.specs.Strings.{equal}
use Rattle.table_lines.specs.Lines.{Row, fields_of, front}
use Rattle.table_index.specs.declared.Lookup.{Lookup}
use Rattle.sort_compare.specs.Fields.{front_field, after_field, shown, next_place, skip_place, fields_from, coded, row_key}
use Rattle.sort_compare.specs.Keys.{key_at}
use Rattle.table_index.specs.Indexed.{by_of, keeps_row, key_from, key_of, key_place, places_at}

abbrev row : Row
row = text "51726-8" ∷ text "s" ∷ text "2" ∷ text "d1" ∷ text "1234" ∷ []

-- what a row of a history is ordered by is its key, at byte 15 of it
keys : key_at (by_of Lookup.KeyElsewhere) (text "51726-8\ts\t2\td1\t1234\n") (key_place Lookup.KeyElsewhere (text "51726-8\ts\t2\td1\t1234\n") 0) ≡ key_of Lookup.KeyElsewhere row
unfolding key_place skip_place next_place by_of row_key fields_from front_field front shown after_field coded key_of key_from
keys = refl

-- it is kept for another set id only
kept : map (λ (set : List ℕ). keeps_row Lookup.KeyElsewhere (text "51726-8") set row) (text "u" ∷ text "s" ∷ []) ≡ true ∷ false ∷ []
unfolding keeps_row equal pairs
kept = refl

-- of two rows the second is kept, with the place of its key
places : places_at Lookup.KeyElsewhere (keeps_row Lookup.KeyElsewhere (text "b") (text "s")) (text "a\tt\t2\td\t1\nb\tt\t2\td\t1\n") 0 2 ≡ 18 ∷ []
unfolding places_at keeps_row fields_of equal pairs key_place skip_place next_place front_field front run_end
places = refl
