use Rattle.xml_values.proofs.Views.{room_says, plain_attribute_ahead, plain_attribute_inside, plain_attribute_says}
use Rattle.judge_draft.proofs.Values.{attribute_formed}
use borrow.Author.Rules.{rules}
use Rattle.judge_draft.proofs.Draft.attribute_has.Goals as goal

pub returns-in_default : goal.returns-in_default
returns-in_default c = search (attribute_formed, room_says, rules)

pub slice_bounds-has_form-count : goal.slice_bounds-has_form-count
slice_bounds-has_form-count c = search plain_attribute_ahead

pub slice_bounds-has_form-start : goal.slice_bounds-has_form-start
slice_bounds-has_form-start c = search plain_attribute_ahead

pub slice_bounds-has_form-end : goal.slice_bounds-has_form-end
slice_bounds-has_form-end c = search plain_attribute_inside

pub returns : goal.returns
returns c = search (attribute_formed, plain_attribute_says)
