-- Worked examples of the definitions, each computed.
-- Assumes nothing.
use Rattle.std.specs.Prelude.{◌≡◌, refl, None, Some, Ok, Err}
use Rattle.refusals.specs.declared.Reason.TheVariants.{Malformed, PastLimit}
use Rattle.text_scan.specs.Bytes.{text}
use Rattle.text_scan.specs.Lists.{begins, run_end}
use Rattle.text_scan.specs.Walk.{walk, from}
use Rattle.xml_names.specs.Names.{name_end, name_is}
use Rattle.xml_names.specs.Values.{opened, equals_at}
use Rattle.xml_references.specs.Runs.{value_step, value_end}
use Rattle.xml_attributes.specs.declared.Tag.TheVariants.{Start, Empty}
use Rattle.xml_names.specs.ElementNames.{element_end}
use Rattle.xml_attributes.specs.Attributes.{attribute_to, is_long}
use Rattle.xml_attributes.specs.Chains.{items, ending, chain, chain_from}
use Rattle.xml_attributes.specs.Parts.{part_to, tag_piece_at, attributes, some_attribute}
use Rattle.xml_tags.specs.Tags.{tag_answer, tag_to, tag_at}
use Rattle.xml_tags.specs.EndTags.{closed_by, end_tag_to, end_tag_end}

tag_plain : tag_at (text "<a>") 0 ≡ Ok (Start 3)
unfolding begins run_end name_end opened equals_at walk from value_step value_end attribute_to items ending chain chain_from part_to tag_piece_at attributes is_long some_attribute tag_answer element_end name_is tag_to
tag_plain = refl

tag_attributes : tag_at (text "<a x='>' y=\"/>\" />") 0 ≡ Ok (Empty 18)
unfolding begins run_end name_end opened equals_at walk from value_step value_end attribute_to items ending chain chain_from part_to tag_piece_at attributes is_long some_attribute tag_answer element_end name_is tag_to
tag_attributes = refl

tag_no_space : tag_at (text "<a x=''y=''>") 0 ≡ Err Malformed
unfolding begins run_end name_end opened equals_at walk from value_step value_end attribute_to items ending chain chain_from part_to tag_piece_at attributes is_long some_attribute tag_answer element_end name_is tag_to
tag_no_space = refl

tag_no_value : tag_at (text "<a x/>") 0 ≡ Err Malformed
unfolding begins run_end name_end opened equals_at walk from value_step value_end attribute_to items ending chain chain_from part_to tag_piece_at attributes is_long some_attribute tag_answer element_end name_is tag_to
tag_no_value = refl

tag_slash_space : tag_at (text "<a / >") 0 ≡ Err Malformed
unfolding begins run_end name_end opened equals_at walk from value_step value_end attribute_to items ending chain chain_from part_to tag_piece_at attributes is_long some_attribute tag_answer element_end name_is tag_to
tag_slash_space = refl

tag_colon : tag_at (text "<a:b/>") 0 ≡ Err Malformed
unfolding begins run_end name_end opened equals_at walk from value_step value_end attribute_to items ending chain chain_from part_to tag_piece_at attributes is_long some_attribute tag_answer element_end name_is tag_to
tag_colon = refl

tag_unfinished : tag_at (text "<a ") 0 ≡ Err Malformed
unfolding begins run_end name_end opened equals_at walk from value_step value_end attribute_to items ending chain chain_from part_to tag_piece_at attributes is_long some_attribute tag_answer element_end name_is tag_to
tag_unfinished = refl

tag_twice : tag_at (text "<a x='1' xy='' x=''>") 0 ≡ Err Malformed
unfolding begins run_end name_end opened equals_at walk from value_step value_end attribute_to items ending chain chain_from part_to tag_piece_at attributes is_long some_attribute tag_answer element_end name_is tag_to
tag_twice = refl

-- a name of 65 bytes, and then malformed besides
tag_name_65 : tag_at (text "<nnnnnnnnnnnnnnnnnnnnnnnnnnnnnnnnnnnnnnnnnnnnnnnnnnnnnnnnnnnnnnnnn/>") 0 ≡ Err PastLimit
unfolding begins run_end name_end opened equals_at walk from value_step value_end attribute_to items ending chain chain_from part_to tag_piece_at attributes is_long some_attribute tag_answer element_end name_is tag_to
tag_name_65 = refl

tag_name_65_malformed : tag_at (text "<nnnnnnnnnnnnnnnnnnnnnnnnnnnnnnnnnnnnnnnnnnnnnnnnnnnnnnnnnnnnnnnnn x/>") 0 ≡ Err Malformed
unfolding begins run_end name_end opened equals_at walk from value_step value_end attribute_to items ending chain chain_from part_to tag_piece_at attributes is_long some_attribute tag_answer element_end name_is tag_to
tag_name_65_malformed = refl

-- 16 attributes, 17, and 17 of which one is there twice
tag_16 : tag_at (text "<a a0='' a1='' a2='' a3='' a4='' a5='' a6='' a7='' a8='' a9='' aa='' ab='' ac='' ad='' ae='' af=''>") 0 ≡ Ok (Start 99)
unfolding begins run_end name_end opened equals_at walk from value_step value_end attribute_to items ending chain chain_from part_to tag_piece_at attributes is_long some_attribute tag_answer element_end name_is tag_to
tag_16 = refl

tag_17 : tag_at (text "<a a0='' a1='' a2='' a3='' a4='' a5='' a6='' a7='' a8='' a9='' aa='' ab='' ac='' ad='' ae='' af='' ag=''>") 0 ≡ Err PastLimit
unfolding begins run_end name_end opened equals_at walk from value_step value_end attribute_to items ending chain chain_from part_to tag_piece_at attributes is_long some_attribute tag_answer element_end name_is tag_to
tag_17 = refl

tag_17_twice : tag_at (text "<a a0='' a1='' a2='' a3='' a4='' a5='' a6='' a7='' a8='' a9='' aa='' ab='' ac='' ad='' ae='' af='' a0=''>") 0 ≡ Err Malformed
unfolding begins run_end name_end opened equals_at walk from value_step value_end attribute_to items ending chain chain_from part_to tag_piece_at attributes is_long some_attribute tag_answer element_end name_is tag_to
tag_17_twice = refl

-- ---- end tags
end_tag : end_tag_end (text "</a \n>") 0 ≡ Some 6
unfolding begins run_end element_end closed_by end_tag_to
end_tag = refl

end_tag_space : end_tag_end (text "</ a>") 0 ≡ None
unfolding begins run_end element_end closed_by end_tag_to
end_tag_space = refl

end_tag_attribute : end_tag_end (text "</a x=''>") 0 ≡ None
unfolding begins run_end element_end closed_by end_tag_to
end_tag_attribute = refl
