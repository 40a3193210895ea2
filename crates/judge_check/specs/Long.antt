-- Refusal 10: a decoded value over 4,096 bytes, with its first raw byte. A raw value within the limit never says more (law `none_long`), so that it
-- never comes.
-- Assumes nothing.
use Rattle.std.specs.Prelude.{ℕ, zero, suc, ◌+◌, ◌/◌, List, [], ◌∷◌, ltb, length, Option, None, Some}
use Rattle.text_scan.specs.Choice.{pick}
use Rattle.xml_reader.specs.Limits.{value_limit}
use Rattle.list_findings.specs.Merge.{or_else}
use Rattle.xml_steps.specs.Reading.{first_of}
use Rattle.xml_attributes.specs.Attributes.{attribute_at}
use Rattle.xml_values.specs.declared.Place.{Place}
use Rattle.xml_values.specs.Attributes.{attributes_of, value_place, value_at}
use Rattle.xml_texts.specs.Texts.{text_place, text_of}

-- the first raw byte of a value that says too much
abbrev pub over : Option Place → List ℕ → Option ℕ
over (Some p) bytes = pick (ltb value_limit (length bytes)) (Some p.first) None
over None bytes = None

-- of the attributes at these positions
unfoldable pub long_attribute : List ℕ → List ℕ → Option ℕ
long_attribute s [] = None
long_attribute s (b ∷ bs) = or_else (over (value_place (attribute_at s b)) (value_at s (value_place (attribute_at s b)))) (long_attribute s bs)

-- of an element: its attributes, then its text
unfoldable pub long_at : List ℕ → ℕ → Option ℕ
long_at s first = or_else (long_attribute s (attributes_of s first)) (over (text_place s first) (text_of s first))

-- of the elements n, n + 1, .., m of them
unfoldable pub long_from : List ℕ → List ℕ → ℕ → ℕ → Option ℕ
long_from s rows n zero = None
long_from s rows n (suc m) = or_else (long_at s (first_of rows n)) (long_from s rows (n + 1) m)

-- of all elements
unfoldable pub long_value : List ℕ → List ℕ → Option ℕ
long_value s rows = long_from s rows 0 (length rows / 4)
