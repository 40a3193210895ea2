use Rattle.xml_compare.proofs.Compared.{character_inside, character_length, character_there, character_other, character_fits}
use borrow.Author.Rules.{rules}
use Rattle.xml_compare.proofs.character_end.Goals as goal

pub slice_bounds-character-end : goal.slice_bounds-character-end
slice_bounds-character-end c = search character_inside

pub slice_bounds-text_at-end : goal.slice_bounds-text_at-end
slice_bounds-text_at-end c = search character_length

pub overflow_add-result : goal.overflow_add-result
overflow_add-result c = search (character_fits, rules)

pub returns-then-text_at : goal.returns-then-text_at
returns-then-text_at c = search character_there

pub returns : goal.returns
returns c = search character_other
