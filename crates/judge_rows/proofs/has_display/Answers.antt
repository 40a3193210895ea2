use Rattle.xml_values.proofs.Views.{room_says, plain_attribute_ahead, plain_attribute_inside, plain_attribute_says}
use Rattle.judge_rows.proofs.Asked.{display_asked}
use Rattle.table_index.proofs.Runs.{any_code}
use borrow.Author.Rules.{rules}
use Rattle.judge_rows.proofs.has_display.Goals as goal

pub some_row-requires : goal.some_row-requires
some_row-requires c = search any_code

pub returns-in_default : goal.returns-in_default
returns-in_default c = search (display_asked, room_says, rules)

pub slice_bounds-some_row-count : goal.slice_bounds-some_row-count
slice_bounds-some_row-count c = search plain_attribute_ahead

pub slice_bounds-some_row-start : goal.slice_bounds-some_row-start
slice_bounds-some_row-start c = search plain_attribute_ahead

pub slice_bounds-some_row-end : goal.slice_bounds-some_row-end
slice_bounds-some_row-end c = search plain_attribute_inside

pub some_row-requires-2 : goal.some_row-requires-2
some_row-requires-2 c = search any_code

pub returns : goal.returns
returns c = search (display_asked, plain_attribute_says)
