use Rattle.xml_values.proofs.Views.{room_says, plain_attribute_ahead, plain_attribute_inside, plain_attribute_says}
use Rattle.judge_history.proofs.Asked.{set_asked, set_served}
use borrow.Author.Rules.{rules}
use Rattle.judge_history.proofs.has_key_outside.Goals as goal

pub some_row-requires : goal.some_row-requires
some_row-requires c = search (set_served _ _ (room_says _ _ _ c.attribute-id.ensures.says (search rules)), rules)

pub returns-in_default : goal.returns-in_default
returns-in_default c = search (set_asked, room_says, rules)

pub slice_bounds-some_row-count : goal.slice_bounds-some_row-count
slice_bounds-some_row-count c = search plain_attribute_ahead

pub slice_bounds-some_row-start : goal.slice_bounds-some_row-start
slice_bounds-some_row-start c = search plain_attribute_ahead

pub slice_bounds-some_row-end : goal.slice_bounds-some_row-end
slice_bounds-some_row-end c = search plain_attribute_inside

pub some_row-requires-2 : goal.some_row-requires-2
some_row-requires-2 c = search (set_served, plain_attribute_says)

pub returns : goal.returns
returns c = search (set_asked, plain_attribute_says)
