-- Worked examples of the definitions, each computed.
-- Assumes nothing.
use Rattle.std.specs.Prelude.{◌≡◌, refl, []}
use Rattle.text_scan.specs.Bytes.{text}
use Rattle.text_scan.specs.Lists.{begins, run_end}
use Rattle.text_scan.specs.Walk.{walk, from}
use Rattle.text_chars.specs.Utf8.{is_xml_char}
use Rattle.text_encode.specs.Encode.{encoded}
use Rattle.xml_names.specs.Names.{name_end, name_is}
use Rattle.xml_names.specs.Values.{opened, equals_at}
use Rattle.xml_markup.specs.Comments.{comment_step, comment_end}
use Rattle.xml_markup.specs.Instructions.{close_step, close_end, data_end, instruction_to}
use Rattle.xml_references.specs.References.{digit_value, number, entity_named, reference_of}
use Rattle.xml_references.specs.Runs.{value_step, value_end, text_step, text_end}
use Rattle.xml_references.specs.Decoded.{replaced}
use Rattle.xml_names.specs.ElementNames.{element_end}
use Rattle.xml_attributes.specs.Attributes.{attribute_to, is_long}
use Rattle.xml_attributes.specs.Chains.{items, ending, chain, chain_from}
use Rattle.xml_attributes.specs.Parts.{part_to, tag_piece_at, attributes, some_attribute}
use Rattle.xml_tags.specs.Tags.{tag_answer, tag_to}
use Rattle.xml_tags.specs.EndTags.{closed_by, end_tag_to}
use Rattle.xml_pieces.specs.Pieces.{text_piece_at, bang_at, question_at, end_at, start_at, markup_at, piece_at}
use Rattle.xml_values.specs.Attributes.{name_after}
use Rattle.xml_texts.specs.Texts.{content_at, step_at, content_from, text_place, saying, said_from, text_of}

-- ---- texts
said : text_of (text "<a x='1'>x<!-- c -->y&lt;<?p q?></a>") 0 ≡ text "xy<"
unfolding begins run_end name_end opened equals_at walk from is_xml_char encoded digit_value number entity_named reference_of value_step value_end text_step text_end comment_step comment_end close_step close_end data_end instruction_to attribute_to items ending chain chain_from part_to tag_piece_at attributes element_end name_is name_after closed_by end_tag_to text_piece_at bang_at question_at end_at markup_at piece_at content_at step_at content_from text_place saying said_from replaced
said = refl

child : text_of (text "<a>x<b/></a>") 0 ≡ []
unfolding begins run_end name_end opened equals_at walk from is_xml_char encoded digit_value number entity_named reference_of value_step value_end text_step text_end comment_step comment_end attribute_to items ending chain chain_from part_to tag_piece_at attributes is_long some_attribute tag_answer tag_to element_end name_is name_after closed_by end_tag_to text_piece_at bang_at question_at end_at start_at markup_at piece_at content_at step_at content_from text_place saying said_from replaced
child = refl

empty_tag : text_of (text "<a/>x</a>") 0 ≡ []
unfolding begins run_end name_end opened equals_at walk from attribute_to items ending chain chain_from part_to tag_piece_at attributes element_end name_is name_after content_at step_at content_from text_place saying said_from replaced
empty_tag = refl
