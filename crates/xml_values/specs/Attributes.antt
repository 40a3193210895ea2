-- The attributes of a tag by their names, and what their values say (document 01, "Reading the document"). The tag is not judged again: of one
-- with a fault, the attributes before the fault are found.
-- Assumes nothing.
use Rattle.std.specs.Prelude.{ℕ, ◌+◌, ◌-◌, Bool, false, List, [], ◌∷◌, Option, Some, None, eqb, leb, ltb, length, get_or, Result}
use Rattle.refusals.specs.declared.Reason.{Reason}
use Prim.Native.Char.{code}
use Rattle.text_scan.specs.Choice.{pick, ◌or◌, ◌and◌, not}
use Rattle.xml_reader.specs.Limits.{value_limit}
use Rattle.xml_references.specs.Decoded.{decoded}
use Rattle.xml_attributes.specs.declared.Attribute.{Attribute}
use Rattle.xml_attributes.specs.declared.Tag.{Tag}
use Rattle.xml_names.specs.ElementNames.{element_end}
use Rattle.xml_names.specs.Names.{name_is}
use Rattle.xml_attributes.specs.Attributes.{attribute_at}
use Rattle.xml_attributes.specs.Chains.{Chain, items}
use Rattle.xml_attributes.specs.Parts.{attributes, some_attribute}
use Rattle.xml_values.specs.declared.Place.{Place}
use Rattle.xml_values.specs.Places.{from_to}

-- the place after the element name of the tag that begins at `first`; where none begins the length, behind which no attribute stands
unfoldable pub name_after : List ℕ → ℕ → ℕ
name_after s first =
    pick (eqb (get_or s first 0) (code "<") and ltb (first + 1) (element_end s (first + 1))) (element_end s (first + 1)) (length s)

-- '>' stands behind the name, so that the tag has no attributes
unfoldable pub is_bare : List ℕ → ℕ → Bool
is_bare s first = eqb (get_or s (name_after s first) 0) (code ">")

-- the tag's attributes by their positions, and how the tag ends
abbrev pub tag_from : List ℕ → ℕ → Chain (Result Tag Reason)
tag_from s first = attributes s (name_after s first)

abbrev pub attributes_of : List ℕ → ℕ → List ℕ
attributes_of s first = items (tag_from s first)

-- ---- the value of an attribute
-- a raw value: from its first byte to its closing quote. One past the limit, which no document that is read has, is none
abbrev pub value_place : Option Attribute → Option Place
value_place (Some a) = pick (leb (a.value_end - a.value) value_limit) (from_to a.value a.value_end) None
value_place None = None

-- that of the first of the attributes at these positions which has the name
unfoldable pub first_named : List ℕ → List ℕ → List ℕ → Option Place
first_named name s [] = None
first_named name s (b ∷ bs) = pick (name_is name s b) (value_place (attribute_at s b)) (first_named name s bs)

unfoldable pub attribute_place : List ℕ → ℕ → List ℕ → Option Place
attribute_place s first name = first_named name s (attributes_of s first)

-- what a raw value says
abbrev pub value_at : List ℕ → Option Place → List ℕ
value_at s (Some p) = decoded s p.first p.after
value_at s None = []

-- what the attribute of this name says; nothing, as an empty attribute, where there is none
abbrev pub attribute_of : List ℕ → ℕ → List ℕ → List ℕ
attribute_of s first name = value_at s (attribute_place s first name)

-- ---- attributes that are not listed
-- the value is not empty: an empty attribute is a missing one. A reference stands for a character, so what is not empty says something
abbrev pub has_value : Option Attribute → Bool
has_value (Some a) = ltb a.value a.value_end
has_value None = false

-- the attribute at position b has one of the names
unfoldable pub is_listed : List (List ℕ) → List ℕ → ℕ → Bool
is_listed [] s b = false
is_listed (t ∷ ts) s b = name_is t s b or is_listed ts s b

unfoldable pub is_other : List (List ℕ) → List ℕ → ℕ → Bool
is_other names s b = has_value (attribute_at s b) and not (is_listed names s b)

-- some attribute of the tag that begins at `first` is not empty and has none of the names
unfoldable pub has_other : List ℕ → ℕ → List (List ℕ) → Bool
has_other s first names = some_attribute (λ b _. is_other names s b) (attributes_of s first)
