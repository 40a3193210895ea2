use Rattle.xml_value_reader.proofs.Shown.{no_end_tag, ends_before, end_name_fits, start_name_ahead, start_name_inside, ends_named}
use borrow.Author.Rules.{rules}
use Rattle.xml_value_reader.proofs.is_closed.Goals as goal

pub returns-in_default : goal.returns-in_default
returns-in_default c = search no_end_tag

pub returns-then-after-r : goal.returns-then-after-r
returns-then-after-r c = search ends_before

pub overflow_add-e : goal.overflow_add-e
overflow_add-e c = search (end_name_fits, rules)

pub slice_bounds-name_is-count : goal.slice_bounds-name_is-count
slice_bounds-name_is-count c = search start_name_ahead

pub slice_bounds-name_is-start : goal.slice_bounds-name_is-start
slice_bounds-name_is-start c = search start_name_ahead

pub slice_bounds-name_is-end : goal.slice_bounds-name_is-end
slice_bounds-name_is-end c = search start_name_inside

pub returns : goal.returns
returns c = search ends_named
