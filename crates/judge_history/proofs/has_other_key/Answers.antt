use Rattle.xml_values.proofs.Views.{room_says, plain_attribute_ahead, plain_attribute_inside, plain_attribute_says}
use Rattle.judge_history.proofs.Asked.{other_asked}
use borrow.Author.Rules.{rules}
use Rattle.judge_history.proofs.has_other_key.Goals as goal

pub returns-in_default : goal.returns-in_default
returns-in_default c = search (other_asked, room_says, rules)

pub slice_bounds-has_key_beside-count : goal.slice_bounds-has_key_beside-count
slice_bounds-has_key_beside-count c = search plain_attribute_ahead

pub slice_bounds-has_key_beside-start : goal.slice_bounds-has_key_beside-start
slice_bounds-has_key_beside-start c = search plain_attribute_ahead

pub slice_bounds-has_key_beside-end : goal.slice_bounds-has_key_beside-end
slice_bounds-has_key_beside-end c = search plain_attribute_inside

pub returns : goal.returns
returns c = search (other_asked, plain_attribute_says)
