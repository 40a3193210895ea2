use Rattle.xml_values.proofs.Views.{room_says, plain_attribute_ahead, plain_attribute_inside, plain_attribute_says}
use Rattle.judge_history.proofs.Asked.{key_asked}
use borrow.Author.Rules.{rules}
use Rattle.judge_history.proofs.has_key_elsewhere.Goals as goal

pub returns-in_default : goal.returns-in_default
returns-in_default c = search (key_asked, room_says, rules)

pub slice_bounds-has_key_outside-count : goal.slice_bounds-has_key_outside-count
slice_bounds-has_key_outside-count c = search plain_attribute_ahead

pub slice_bounds-has_key_outside-start : goal.slice_bounds-has_key_outside-start
slice_bounds-has_key_outside-start c = search plain_attribute_ahead

pub slice_bounds-has_key_outside-end : goal.slice_bounds-has_key_outside-end
slice_bounds-has_key_outside-end c = search plain_attribute_inside

pub returns : goal.returns
returns c = search (key_asked, plain_attribute_says)
