-- What stands between a name and its value: Eq (XML 1.0, production [25]) and the opening quote.
-- Assumes nothing.
use Rattle.std.specs.Prelude.{ℕ, ◌+◌, Bool, List, eqb, get_or, Option, None, Some}
use Prim.Native.Char.{code}
use Rattle.text_scan.specs.Choice.{pick, ◌or◌}
use Rattle.xml_names.specs.Names.{space_end}

abbrev pub is_quote : ℕ → Bool
is_quote b = eqb b (code "\"") or eqb b (code "'")

-- the place after the quote at position q
unfoldable pub opened : List ℕ → ℕ → Option ℕ
opened s q = pick (is_quote (get_or s q 0)) (Some (q + 1)) None

-- white space, if any, '=' at position e, white space, if any, and a quote
unfoldable pub equals_at : List ℕ → ℕ → Option ℕ
equals_at s e = pick (eqb (get_or s e 0) (code "=")) (opened s (space_end s (e + 1))) None

-- the first byte of the value of a name that ends at position n; the byte before it is the quote
abbrev pub value_start : List ℕ → ℕ → Option ℕ
value_start s n = equals_at s (space_end s n)
