-- Worked examples of the definitions, each computed.
-- Assumes nothing.
use Rattle.std.specs.Prelude.{◌≡◌, refl, [], ◌∷◌, Some, None}
use Rattle.text_scan.specs.Bytes.{text}
use Rattle.text_scan.specs.Lists.{begins, run_end}
use Rattle.text_scan.specs.Walk.{walk, from}
use Rattle.xml_names.specs.Names.{name_end}
use Rattle.xml_names.specs.Values.{opened, equals_at}
use Rattle.xml_references.specs.References.{digit_value, number, entity_named, reference_of}
use Rattle.xml_references.specs.Runs.{value_step, value_end}
use Rattle.xml_attributes.specs.Attributes.{attribute_to, attribute_at}
use Rattle.xml_attributes.specs.Chains.{items, chain, chain_from}
use Rattle.xml_attributes.specs.Parts.{part_to, tag_piece_at, attributes}

-- ---- attributes
attribute_plain : attribute_at (text "<a x = '&lt;\"'/>") 3 ≡ Some (record { at = 3; name_end = 4; value = 8; value_end = 13 })
unfolding begins run_end name_end opened equals_at walk from digit_value number entity_named reference_of value_step value_end attribute_to
attribute_plain = refl

attribute_less : attribute_at (text "<a x='<'/>") 3 ≡ None
unfolding begins run_end name_end opened equals_at walk from digit_value number entity_named reference_of value_step value_end attribute_to
attribute_less = refl

-- ---- tags
listed : items (attributes (text "<a x='1' y:='2' />") 2) ≡ 3 ∷ 9 ∷ []
unfolding begins run_end name_end opened equals_at walk from value_step value_end attribute_to items chain chain_from part_to tag_piece_at attributes
listed = refl
