-- The attributes of a tag as a list, one of which an iterator yields at each call.
-- Assumes nothing.
use Rattle.std.specs.Prelude.{ℕ, List}
use Rattle.std.specs.List.{filter_map}
use Rattle.xml_attributes.specs.declared.Attribute.{Attribute}
use Rattle.xml_attributes.specs.declared.Attributes.{Attributes}
use Rattle.xml_attributes.specs.Attributes.{attribute_at}
use Rattle.xml_attributes.specs.Chains.{items}
use Rattle.xml_attributes.specs.Parts.{attributes}

-- the attributes of the tag whose element name ends at n
unfoldable pub listed : List ℕ → ℕ → List Attribute
listed s n = filter_map (attribute_at s) (items (attributes s n))

-- what the iterator has left
abbrev pub left : Attributes → List Attribute
left t = listed t.s.now t.at
