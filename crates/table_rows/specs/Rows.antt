-- What the procedures ask of the rows of a table: whether some row is what is asked for.
-- Assumes nothing.
use Rattle.std.specs.Prelude.{ℕ, Bool, false, List, [], ◌∷◌, leb}
use Rattle.text_scan.specs.Choice.{◌or◌, ◌and◌, not}
use Rattle.text_facts.specs.Strings.{equal, equal_in_any_case}
use Rattle.text_numbers.specs.Numbers.{version_of}
use Rattle.table_lines.specs.Lines.{Row, field}
use Rattle.table_rows.specs.declared.Question.{Question}

-- some row satisfies the test
unfoldable pub some_row : (Row → Bool) → List Row → Bool
some_row q [] = false
some_row q (row ∷ rows) = q row or some_row q rows

-- ---- code list: code, code system, display name
-- procedures 8 and 34: code, system and display name, ASCII case ignored in the last
unfoldable pub is_code : List ℕ → List ℕ → List ℕ → Row → Bool
is_code code system display row =
    equal (field row 0) code and equal (field row 1) system and equal_in_any_case (field row 2) display

-- ---- register: DUNS number, name
-- procedure 18: that number and name
unfoldable pub is_registered : List ℕ → List ℕ → Row → Bool
is_registered number name row = equal (field row 0) number and equal (field row 1) name

-- ---- history: type, set id, version, document id, key
-- procedure 6: that document id
unfoldable pub is_document : List ℕ → Row → Bool
is_document document row = equal (field row 3) document

-- procedure 12: of that set id, this or a higher version
unfoldable pub is_version : List ℕ → List ℕ → Row → Bool
is_version set version row = equal (field row 1) set and leb (version_of version) (version_of (field row 2))

-- procedure 21: of this type, this key under another set id
unfoldable pub is_key_elsewhere : List ℕ → List ℕ → List ℕ → Row → Bool
is_key_elsewhere type key set row =
    equal (field row 0) type and equal (field row 4) key and not (equal (field row 1) set)

-- procedure 22: of this type with this set id, another key
unfoldable pub is_other_key : List ℕ → List ℕ → List ℕ → Row → Bool
is_other_key type set key row =
    equal (field row 0) type and equal (field row 1) set and not (equal (field row 4) key)

-- ---- all of them, asked of up to three values
unfoldable pub is_asked : Question → List ℕ → List ℕ → List ℕ → Row → Bool
is_asked Question.Code a b c = is_code a b c
is_asked Question.Name a b c = is_registered a b
is_asked Question.Document a b c = is_document a
is_asked Question.Version a b c = is_version a b
is_asked Question.KeyElsewhere a b c = is_key_elsewhere a b c
is_asked Question.OtherKey a b c = is_other_key a b c
