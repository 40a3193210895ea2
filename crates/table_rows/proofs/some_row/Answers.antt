use Rattle.table_lines.proofs.Runs.{ahead, line_within, line_fits}
use Rattle.table_rows.proofs.Walk.{no_more, past_end, row_found, row_passed}
use Rattle.table_rows.proofs.some_row.Goals as goal

pub returns-then-s-i : goal.returns-then-s-i
returns-then-s-i c = search past_end

pub slice_bounds-is_asked-count : goal.slice_bounds-is_asked-count
slice_bounds-is_asked-count c = search ahead

pub slice_bounds-is_asked-start : goal.slice_bounds-is_asked-start
slice_bounds-is_asked-start c = search ahead

pub slice_bounds-is_asked-end : goal.slice_bounds-is_asked-end
slice_bounds-is_asked-end c = search line_within

pub returns-then-is_asked : goal.returns-then-is_asked
returns-then-is_asked c = search row_found

pub overflow_add-i : goal.overflow_add-i
overflow_add-i c = search line_fits

pub loop-preserved : goal.loop-preserved
loop-preserved c = search row_passed

pub returns : goal.returns
returns c = search no_more
