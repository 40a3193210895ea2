use Rattle.xml_values.proofs.Views.{room_says, plain_attribute_ahead, plain_attribute_inside, plain_attribute_says}
use Rattle.judge_draft.proofs.Values.{attribute_begins}
use borrow.Author.Rules.{rules}
use Rattle.judge_draft.proofs.Draft.attribute_begins.Goals as goal

pub returns-in_default : goal.returns-in_default
returns-in_default c = search (attribute_begins, room_says, rules)

pub slice_bounds-begins_with-count : goal.slice_bounds-begins_with-count
slice_bounds-begins_with-count c = search plain_attribute_ahead

pub slice_bounds-begins_with-start : goal.slice_bounds-begins_with-start
slice_bounds-begins_with-start c = search plain_attribute_ahead

pub slice_bounds-begins_with-end : goal.slice_bounds-begins_with-end
slice_bounds-begins_with-end c = search plain_attribute_inside

pub returns : goal.returns
returns c = search (attribute_begins, plain_attribute_says)
