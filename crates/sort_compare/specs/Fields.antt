-- The fields in front of a byte string, as a row of a tables file has them, and the string that they are ordered by.
-- Assumes nothing.
use Rattle.std.specs.Prelude.{ℕ, zero, suc, ◌+◌, Bool, true, false, List, [], ◌∷◌, ◌++◌, map, eqb, length, drop, get_or}
use Prim.Native.Char.{code}
use Rattle.text_scan.specs.Choice.{pick, ◌or◌, ◌and◌, not}
use Rattle.text_scan.specs.Bytes.{lower}
use Rattle.table_lines.specs.Lines.{front, is_tab}

abbrev pub is_feed : ℕ → Bool
is_feed b = eqb b (code "\n")

-- a byte before which a part ends that is cut
abbrev pub ends : Bool → ℕ → Bool
ends cut b = cut and (is_tab b or is_feed b)

-- all bytes, or only the field in front of them: up to a tab or a line feed
unfoldable pub front_field : Bool → List ℕ → List ℕ
front_field cut bs = front (λ b. not (ends cut b)) bs

-- what follows the field in front and its tab; where the row ends with it, its end
unfoldable pub after_field : List ℕ → List ℕ
after_field [] = []
after_field (b ∷ bs) = pick (is_tab b) bs (pick (is_feed b) (b ∷ bs) (after_field bs))

-- the place where that starts, where the field ends at i
unfoldable pub next_place : List ℕ → ℕ → ℕ
next_place s i = pick (is_tab (get_or s i 0)) (i + 1) i

-- the same of the field that starts at i
unfoldable pub skip_place : List ℕ → ℕ → ℕ
skip_place s i = next_place s (i + length (front_field true (drop i s)))

-- the bytes as they are, or each letter A to Z made small
unfoldable pub shown : Bool → List ℕ → List ℕ
shown true bs = map lower bs
shown false bs = bs

-- n fields in front of a byte string; the one with which `folded` are left in any case of letters
unfoldable pub fields_from : ℕ → ℕ → List ℕ → List (List ℕ)
fields_from zero folded bs = []
fields_from (suc n) folded bs = shown (eqb (suc n) folded) (front_field true bs) ∷ fields_from n folded (after_field bs)

-- several strings as one, each followed by a 0 that stands in none of them: they are ordered by the first, then by the second, and so on
unfoldable pub coded : List (List ℕ) → List ℕ
coded [] = []
coded (f ∷ fs) = map suc f ++ 0 ∷ coded fs

unfoldable pub row_key : ℕ → ℕ → List ℕ → List ℕ
row_key n folded bs = coded (fields_from n folded bs)
