-- What the comparisons look at, byte by byte: the answers of private functions. No definition of document 01, and no public contract names them.
-- Assumes nothing.
use Rattle.std.specs.Prelude.{ℕ, zero, suc, ◌+◌, Bool, true, List, [], ◌∷◌, eqb, ltb, get_or}
use Rattle.text_scan.specs.Choice.{pick, ◌and◌, not}
use Rattle.table_lines.specs.Lines.{is_tab}
use Rattle.sort_compare.specs.Fields.{is_feed}

-- the byte at position i where it is of the class, and 0 where it is not
abbrev pub byte_in : (ℕ → Bool) → List ℕ → ℕ → ℕ
byte_in p s i = pick (p (get_or s i 0)) (get_or s i 0) 0

-- the first byte and one more, and 0 where there is none
abbrev pub unit_of : List ℕ → ℕ
unit_of [] = 0
unit_of (b ∷ bs) = suc b

-- how many bytes in front of two strings are the same and above 13
unfoldable pub alike_from : List ℕ → List ℕ → ℕ
alike_from [] ys = 0
alike_from (x ∷ xs) [] = 0
alike_from (x ∷ xs) (y ∷ ys) = pick (eqb x y and ltb 13 x) (suc (alike_from xs ys)) 0

-- the k bytes from i and from j on are the same, and none is a line feed
unfoldable pub sharing : List ℕ → ℕ → ℕ → ℕ → Bool
sharing s i j zero = true
sharing s i j (suc k) = sharing s i j k and eqb (get_or s (i + k) 0) (get_or s (j + k) 0) and not (is_feed (get_or s (i + k) 0))

-- how many of the k bytes from i on are tabs
unfoldable pub tabs_in : List ℕ → ℕ → ℕ → ℕ
tabs_in s i zero = 0
tabs_in s i (suc k) = pick (is_tab (get_or s (i + k) 0)) (tabs_in s i k + 1) (tabs_in s i k)
