-- Lines and their fields: a line ends in one line feed, and a tab parts two fields.
-- Assumes nothing.
use Rattle.std.specs.Prelude.{ℕ, zero, suc, ◌+◌, ◌-◌, Bool, true, false, Option, Some, None, List, [], ◌∷◌, eqb, ltb, length, take, drop, get_or}
use Prim.Native.Char.{code}
use Rattle.text_scan.specs.Choice.{pick, ◌and◌, not}
use Rattle.text_scan.specs.Lists.{every, run_from}

abbrev pub other : ℕ → ℕ → Bool
other b x = not (eqb x b)

-- the bytes in front of the first that fails a test
unfoldable pub front : (ℕ → Bool) → List ℕ → List ℕ
front p [] = []
front p (x ∷ xs) = pick (p x) (x ∷ front p xs) []

-- ---- lines
-- the place of the line feed that ends the line at i, or the length where there is none
abbrev pub line_end : List ℕ → ℕ → ℕ
line_end s i = run_from (other (code "\n")) s i

-- the line at i has its line feed
abbrev pub has_feed : List ℕ → ℕ → Bool
has_feed s i = ltb (line_end s i) (length s)

-- the bytes of the line at i before its line feed
abbrev pub line_at : List ℕ → ℕ → List ℕ
line_at s i = take (line_end s i - i) (drop i s)

-- ---- rows
-- a row is its fields, each a byte string
abbrev pub Row : Type 0
Row = List (List ℕ)

-- the field of number k, from 0; an empty one where the row has no such field
abbrev pub field : Row → ℕ → List ℕ
field row k = get_or row k []

-- one more byte in front of a row's first field
abbrev pub in_first : ℕ → Row → Row
in_first b [] = (b ∷ []) ∷ []
in_first b (f ∷ fs) = (b ∷ f) ∷ fs

abbrev pub is_tab : ℕ → Bool
is_tab b = eqb b (code "\t")

-- the fields of a line, one more than it has tabs
unfoldable pub fields_of : List ℕ → Row
fields_of [] = [] ∷ []
fields_of (b ∷ bs) = pick (is_tab b) ([] ∷ fields_of bs) (in_first b (fields_of bs))

-- the rows from the line at i on, n of them where the file has so many lines
unfoldable pub rows_at : List ℕ → ℕ → ℕ → List Row
rows_at s i zero = []
rows_at s i (suc n) = pick (ltb i (length s)) (fields_of (line_at s i) ∷ rows_at s (line_end s i + 1) n) []

-- ---- fields
-- a field is not empty, and without carriage return
abbrev pub is_field : List ℕ → Bool
is_field [] = false
is_field (b ∷ bs) = every (other (code "\r")) (b ∷ bs)

unfoldable pub are_fields : Row → Bool
are_fields [] = true
are_fields (f ∷ fs) = is_field f and are_fields fs

-- the number of fields, where each of them is a field
unfoldable pub field_count : List ℕ → Option ℕ
field_count line = pick (are_fields (fields_of line)) (Some (length (fields_of line))) None
