use Rattle.xml_values.proofs.Views.{room_says, plain_attribute_ahead, plain_attribute_inside, plain_attribute_says}
use Rattle.judge_history.proofs.Asked.{beside_asked, set_told}
use borrow.Author.Rules.{rules}
use Rattle.judge_history.proofs.has_key_beside.Goals as goal

pub is_other_key-requires : goal.is_other_key-requires
is_other_key-requires c = search (set_told, room_says, rules)

pub returns-in_default : goal.returns-in_default
returns-in_default c = search (beside_asked, room_says, rules)

pub slice_bounds-is_other_key-count : goal.slice_bounds-is_other_key-count
slice_bounds-is_other_key-count c = search plain_attribute_ahead

pub slice_bounds-is_other_key-start : goal.slice_bounds-is_other_key-start
slice_bounds-is_other_key-start c = search plain_attribute_ahead

pub slice_bounds-is_other_key-end : goal.slice_bounds-is_other_key-end
slice_bounds-is_other_key-end c = search plain_attribute_inside

pub is_other_key-requires-2 : goal.is_other_key-requires-2
is_other_key-requires-2 c = search (set_told, plain_attribute_says)

pub returns : goal.returns
returns c = search (beside_asked, plain_attribute_says)
