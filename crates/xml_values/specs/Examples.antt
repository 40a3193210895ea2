-- Worked examples of the definitions, each computed.
-- Assumes nothing.
use Rattle.std.specs.Prelude.{◌≡◌, refl, true, false, [], ◌∷◌, None}
use Rattle.text_scan.specs.Bytes.{text}
use Rattle.text_scan.specs.Lists.{every, begins, run_end}
use Rattle.text_scan.specs.Walk.{walk, from}
use Rattle.text_chars.specs.Utf8.{is_xml_char}
use Rattle.text_encode.specs.Encode.{encoded}
use Rattle.xml_names.specs.Names.{name_end, name_is}
use Rattle.xml_names.specs.Values.{opened, equals_at}
use Rattle.xml_references.specs.References.{digit_value, number, entity_named, reference_of}
use Rattle.xml_references.specs.Runs.{value_step, value_end}
use Rattle.xml_references.specs.Decoded.{replaced}
use Rattle.xml_names.specs.ElementNames.{element_end}
use Rattle.xml_attributes.specs.Attributes.{attribute_to}
use Rattle.xml_attributes.specs.Chains.{items, chain, chain_from}
use Rattle.xml_attributes.specs.Parts.{part_to, tag_piece_at, attributes, some_attribute}
use Rattle.xml_values.specs.declared.View.TheVariants.{Document, Scratch}
use Rattle.xml_values.specs.Attributes.{name_after, first_named, attribute_place, attribute_of, is_listed, is_other, has_other}
use Rattle.xml_values.specs.Views.{view_of}
use Rattle.xml_values.specs.Places.{from_to}

-- ---- attributes
place : attribute_place (text "<id root='1.2' extension='a&amp;b'/>") 0 (text "root") ≡ from_to 10 13
unfolding begins run_end name_end opened equals_at walk from digit_value number entity_named reference_of value_step value_end attribute_to items chain chain_from part_to tag_piece_at attributes element_end name_is name_after first_named attribute_place
place = refl

decoded_value : attribute_of (text "<id root='1.2' extension='a&amp;b'/>") 0 (text "extension") ≡ text "a&b"
unfolding begins run_end name_end opened equals_at walk from is_xml_char encoded digit_value number entity_named reference_of value_step value_end attribute_to items chain chain_from part_to tag_piece_at attributes element_end name_is name_after first_named attribute_place replaced
decoded_value = refl

-- a name is the whole name
prefix : attribute_place (text "<id root='1.2'/>") 0 (text "roo") ≡ None
unfolding begins run_end name_end opened equals_at walk from digit_value number entity_named reference_of value_step value_end attribute_to items chain chain_from part_to tag_piece_at attributes element_end name_is name_after first_named attribute_place
prefix = refl

no_tag : attribute_place (text "x root='1.2'") 1 (text "root") ≡ None
unfolding begins run_end name_end opened equals_at walk from digit_value number entity_named reference_of value_step value_end attribute_to items chain chain_from part_to tag_piece_at attributes element_end name_is name_after first_named attribute_place
no_tag = refl

-- an empty attribute is a missing one
listed : has_other (text "<id root='1.2' x=''/>") 0 (text "root" ∷ []) ≡ false
unfolding begins run_end name_end opened equals_at walk from digit_value number entity_named reference_of value_step value_end attribute_to items chain chain_from part_to tag_piece_at attributes element_end name_is name_after some_attribute is_listed is_other has_other
listed = refl

unlisted : has_other (text "<id root='1.2' x='1'/>") 0 (text "root" ∷ []) ≡ true
unfolding begins run_end name_end opened equals_at walk from digit_value number entity_named reference_of value_step value_end attribute_to items chain chain_from part_to tag_piece_at attributes element_end name_is name_after some_attribute is_listed is_other has_other
unlisted = refl

-- ---- views: as it stands, decoded, and absent
as_it_stands : view_of (text "<a>xy</a>") (from_to 3 5) (text "xy") ≡ Document 3 5
unfolding every view_of
as_it_stands = refl

with_reference : view_of (text "<a>x&lt;</a>") (from_to 3 8) (text "x<") ≡ Scratch 2
unfolding every view_of
with_reference = refl

absent : view_of (text "<a/>") None [] ≡ Document 0 0
unfolding view_of
absent = refl
