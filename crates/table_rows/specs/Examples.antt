-- Worked examples of the questions, which the checker computes: one history, whose set s has version 2 before version 10.
-- Assumes nothing.
use Rattle.std.specs.Prelude.{ℕ, Bool, true, false, List, [], ◌∷◌, map, ◌≡◌, refl}
use Rattle.text_scan.specs.Bytes.{text}
use Rattle.text_scan.specs.Lists.{every, pairs, run_end}
use Rattle.text_facts.specs.Strings.{equal, equal_in_any_case}
use Rattle.text_numbers.specs.Numbers.{value_after, version_of}
use Rattle.table_lines.specs.Lines.{Row, fields_of, rows_at}
use Rattle.table_rows.specs.Rows.{some_row, is_code, is_registered, is_document, is_version, is_key_elsewhere, is_other_key}

abbrev history : List ℕ
history = text "51726-8\ts\t2\td1\t1234\n51726-8\ts\t10\td2\t1234\n51726-8\tu\t007\td3\t5678\n"

abbrev asked : List (Row → Bool) → List Bool
asked qs = map (λ (q : Row → Bool). some_row q (rows_at history 0 3)) qs

-- version 9 of s is below its version 10, and version 11 is not; 8 of u is above its version 007; a set without rows has none
versions : asked (is_version (text "s") (text "9") ∷ is_version (text "s") (text "10") ∷ is_version (text "s") (text "11")
    ∷ is_version (text "u") (text "7") ∷ is_version (text "u") (text "8") ∷ is_version (text "v") (text "1") ∷ [])
    ≡ true ∷ true ∷ false ∷ true ∷ false ∷ false ∷ []
unfolding every pairs run_end equal value_after version_of fields_of rows_at some_row is_version
versions = refl

-- a document id; a key under another set id; another key of a set id
others : asked (is_document (text "d3") ∷ is_document (text "s")
    ∷ is_key_elsewhere (text "51726-8") (text "1234") (text "u") ∷ is_key_elsewhere (text "51726-8") (text "1234") (text "s")
    ∷ is_key_elsewhere (text "51725-0") (text "1234") (text "u")
    ∷ is_other_key (text "51726-8") (text "s") (text "5678") ∷ is_other_key (text "51726-8") (text "s") (text "1234") ∷ [])
    ≡ true ∷ false ∷ true ∷ false ∷ false ∷ true ∷ false ∷ []
unfolding every pairs run_end equal value_after version_of fields_of rows_at some_row is_document is_key_elsewhere is_other_key
others = refl

-- case is ignored in the display name alone
names : map (λ (q : Row → Bool). some_row q (rows_at (text "C7\t1.2\tImport\n") 0 1))
    (is_code (text "C7") (text "1.2") (text "IMPORT") ∷ is_code (text "c7") (text "1.2") (text "Import")
    ∷ is_registered (text "C7") (text "1.2") ∷ is_registered (text "C7") (text "Import") ∷ [])
    ≡ true ∷ false ∷ true ∷ false ∷ []
unfolding every pairs run_end equal equal_in_any_case fields_of rows_at some_row is_code is_registered
names = refl
