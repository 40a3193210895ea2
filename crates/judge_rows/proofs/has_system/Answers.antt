use Rattle.xml_values.proofs.Views.{room_says, plain_attribute_ahead, plain_attribute_inside, plain_attribute_says}
use Rattle.judge_rows.proofs.Asked.{system_asked}
use borrow.Author.Rules.{rules}
use Rattle.judge_rows.proofs.has_system.Goals as goal

pub returns-in_default : goal.returns-in_default
returns-in_default c = search (system_asked, room_says, rules)

pub slice_bounds-has_display-count : goal.slice_bounds-has_display-count
slice_bounds-has_display-count c = search plain_attribute_ahead

pub slice_bounds-has_display-start : goal.slice_bounds-has_display-start
slice_bounds-has_display-start c = search plain_attribute_ahead

pub slice_bounds-has_display-end : goal.slice_bounds-has_display-end
slice_bounds-has_display-end c = search plain_attribute_inside

pub returns : goal.returns
returns c = search (system_asked, plain_attribute_says)
