-- Worked examples of the values in a range, each computed.
-- Assumes nothing.
use Rattle.std.specs.Prelude.{◌≡◌, refl, [], ◌∷◌}
use Rattle.text_scan.specs.Bytes.{text}
use Rattle.text_scan.specs.Lists.{begins, run_end}
use Rattle.text_scan.specs.Walk.{walk, from}
use Rattle.text_chars.specs.Utf8.{is_xml_char, sound, tail, decode, char_at, first_bad}
use Rattle.text_encode.specs.Encode.{encoded}
use Rattle.xml_names.specs.Names.{name_end, name_is}
use Rattle.xml_names.specs.Values.{opened, equals_at}
use Rattle.xml_markup.specs.Comments.{comment_step, comment_end}
use Rattle.xml_references.specs.References.{digit_value, number, entity_named, reference_of}
use Rattle.xml_references.specs.Runs.{value_step, value_end, text_step, text_end}
use Rattle.xml_references.specs.Decoded.{replaced}
use Rattle.xml_names.specs.ElementNames.{element_end}
use Rattle.xml_attributes.specs.Attributes.{attribute_to, is_long}
use Rattle.xml_attributes.specs.Chains.{items, ending, chain, chain_from}
use Rattle.xml_attributes.specs.Parts.{part_to, tag_piece_at, attributes, some_attribute}
use Rattle.xml_tags.specs.Tags.{tag_answer, tag_to}
use Rattle.xml_tags.specs.EndTags.{closed_by, end_tag_to}
use Rattle.xml_pieces.specs.Pieces.{text_piece_at, bang_at, question_at, end_at, start_at, markup_at, piece_at}
use Rattle.xml_values.specs.Attributes.{name_after, first_named, attribute_place}
use Rattle.xml_texts.specs.Texts.{content_at, step_at, content_from, text_place, saying, said_from}
use Rattle.xml_value_reader.specs.Shown.{opens, closes, is_element, place_in, bytes_in}

-- for an attribute the first piece alone is read
attribute : bytes_in (text "<a b='1' c='&lt;'>") (text "c") ≡ text "<"
unfolding begins run_end name_end opened equals_at walk from is_xml_char sound tail decode char_at first_bad encoded digit_value number entity_named reference_of value_step value_end replaced element_end name_is attribute_to is_long items ending chain chain_from part_to tag_piece_at attributes some_attribute tag_answer tag_to name_after first_named attribute_place opens place_in bytes_in
attribute = refl

-- a repeated attribute is a fault
repeated : bytes_in (text "<a b='1' b='2'/>") (text "b") ≡ []
unfolding begins run_end name_end opened equals_at walk from is_xml_char sound tail decode char_at first_bad encoded digit_value number entity_named reference_of value_step value_end replaced element_end name_is attribute_to is_long items ending chain chain_from part_to tag_piece_at attributes some_attribute tag_answer tag_to name_after first_named attribute_place opens place_in bytes_in
repeated = refl

bad_byte : bytes_in (0x3C ∷ 0x61 ∷ 0x20 ∷ 0x62 ∷ 0x3D ∷ 0x27 ∷ 0xFF ∷ 0x27 ∷ 0x3E ∷ []) (text "b") ≡ []
unfolding begins run_end name_end opened equals_at walk from is_xml_char sound tail decode char_at first_bad encoded digit_value number entity_named reference_of value_step value_end replaced element_end name_is attribute_to is_long items ending chain chain_from part_to tag_piece_at attributes some_attribute tag_answer tag_to name_after first_named attribute_place opens place_in bytes_in
bad_byte = refl

-- for a text all is read, and is one element
said : bytes_in (text "<a>x<!-- c -->&gt;</a>") [] ≡ text "x>"
unfolding begins run_end name_end opened equals_at walk from is_xml_char sound tail decode char_at first_bad encoded digit_value number entity_named reference_of value_step value_end text_step text_end comment_step comment_end replaced element_end name_is attribute_to is_long items ending chain chain_from part_to tag_piece_at attributes some_attribute tag_answer tag_to closed_by end_tag_to text_piece_at bang_at question_at end_at start_at markup_at piece_at name_after content_at step_at content_from text_place saying said_from closes is_element place_in bytes_in
said = refl

other_name : bytes_in (text "<a>x</ab>") [] ≡ []
unfolding begins run_end name_end opened equals_at walk from is_xml_char sound tail decode char_at first_bad encoded digit_value number entity_named reference_of value_step value_end text_step text_end comment_step comment_end replaced element_end name_is attribute_to is_long items ending chain chain_from part_to tag_piece_at attributes some_attribute tag_answer tag_to closed_by end_tag_to text_piece_at bang_at question_at end_at start_at markup_at piece_at name_after content_at step_at content_from text_place saying said_from closes is_element place_in bytes_in
other_name = refl

behind : bytes_in (text "<a>x</a> ") [] ≡ []
unfolding begins run_end name_end opened equals_at walk from is_xml_char sound tail decode char_at first_bad encoded digit_value number entity_named reference_of value_step value_end text_step text_end comment_step comment_end replaced element_end name_is attribute_to is_long items ending chain chain_from part_to tag_piece_at attributes some_attribute tag_answer tag_to closed_by end_tag_to text_piece_at bang_at question_at end_at start_at markup_at piece_at name_after content_at step_at content_from text_place saying said_from closes is_element place_in bytes_in
behind = refl
