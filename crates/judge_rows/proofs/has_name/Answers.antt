use Rattle.xml_values.proofs.Views.{room_says, plain_attribute_ahead, plain_attribute_inside, plain_attribute_says}
use Rattle.judge_rows.proofs.Asked.{number_asked}
use borrow.Author.Rules.{rules}
use Rattle.judge_rows.proofs.has_name.Goals as goal

pub returns-in_default : goal.returns-in_default
returns-in_default c = search (number_asked, room_says, rules)

pub slice_bounds-has_name_of-count : goal.slice_bounds-has_name_of-count
slice_bounds-has_name_of-count c = search plain_attribute_ahead

pub slice_bounds-has_name_of-start : goal.slice_bounds-has_name_of-start
slice_bounds-has_name_of-start c = search plain_attribute_ahead

pub slice_bounds-has_name_of-end : goal.slice_bounds-has_name_of-end
slice_bounds-has_name_of-end c = search plain_attribute_inside

pub returns : goal.returns
returns c = search (number_asked, plain_attribute_says)
