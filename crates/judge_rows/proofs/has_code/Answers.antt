use Rattle.xml_values.proofs.Views.{room_says, plain_attribute_ahead, plain_attribute_inside, plain_attribute_says}
use Rattle.judge_rows.proofs.Asked.{code_asked}
use borrow.Author.Rules.{rules}
use Rattle.judge_rows.proofs.has_code.Goals as goal

pub returns-in_default : goal.returns-in_default
returns-in_default c = search (code_asked, room_says, rules)

pub slice_bounds-has_system-count : goal.slice_bounds-has_system-count
slice_bounds-has_system-count c = search plain_attribute_ahead

pub slice_bounds-has_system-start : goal.slice_bounds-has_system-start
slice_bounds-has_system-start c = search plain_attribute_ahead

pub slice_bounds-has_system-end : goal.slice_bounds-has_system-end
slice_bounds-has_system-end c = search plain_attribute_inside

pub returns : goal.returns
returns c = search (code_asked, plain_attribute_says)
