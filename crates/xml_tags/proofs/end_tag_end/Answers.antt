use Rattle.xml_attributes.proofs.Parts.{close_fits}
use Rattle.xml_tags.proofs.EndTags.{no_end_tag, end_tag_fits, no_element, end_tag_whole, end_tag_open}
use borrow.Author.Rules.{rules}
use Rattle.xml_tags.proofs.end_tag_end.Goals as goal

pub overflow_add-at : goal.overflow_add-at
overflow_add-at c = search (end_tag_fits, rules)

pub overflow_add-at-then-text_at : goal.overflow_add-at-then-text_at
overflow_add-at-then-text_at c = search (end_tag_fits, rules)

pub returns-then-n-at : goal.returns-then-n-at
returns-then-n-at c = search no_element

pub overflow_add-result : goal.overflow_add-result
overflow_add-result c = search close_fits

pub returns-then-byte-eq62 : goal.returns-then-byte-eq62
returns-then-byte-eq62 c = search end_tag_whole

pub returns-then-text_at : goal.returns-then-text_at
returns-then-text_at c = search end_tag_open

pub returns : goal.returns
returns c = search no_end_tag
