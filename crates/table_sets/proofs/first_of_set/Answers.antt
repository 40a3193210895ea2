use Rattle.table_lines.proofs.Runs.{ahead, line_within, line_fits}
use Rattle.table_sets.proofs.FirstRow.{no_more, past_end, row_found, row_passed}
use Rattle.table_sets.proofs.first_of_set.Goals as goal

pub returns-then-s-i : goal.returns-then-s-i
returns-then-s-i c = search past_end

pub slice_bounds-is_of_set-count : goal.slice_bounds-is_of_set-count
slice_bounds-is_of_set-count c = search ahead

pub slice_bounds-is_of_set-start : goal.slice_bounds-is_of_set-start
slice_bounds-is_of_set-start c = search ahead

pub slice_bounds-is_of_set-end : goal.slice_bounds-is_of_set-end
slice_bounds-is_of_set-end c = search line_within

pub returns-then-is_of_set : goal.returns-then-is_of_set
returns-then-is_of_set c = search row_found

pub overflow_add-i : goal.overflow_add-i
overflow_add-i c = search line_fits

pub loop-preserved : goal.loop-preserved
loop-preserved c = search row_passed

pub returns : goal.returns
returns c = search no_more
