use Rattle.table_lines.proofs.Runs.{ahead}
use Rattle.table_file.proofs.Lines.{count_of}
use Rattle.table_file.proofs.Reading.{rows_done, rows_no_feed, rows_on, rows_bad}
use Rattle.table_file.proofs.rows_end.Goals as goal

pub returns-then-s-e : goal.returns-then-s-e
returns-then-s-e c = search rows_no_feed

pub slice_bounds-is_row-count : goal.slice_bounds-is_row-count
slice_bounds-is_row-count c = search ahead

pub slice_bounds-is_row-start : goal.slice_bounds-is_row-start
slice_bounds-is_row-start c = search ahead

pub is_row-requires : goal.is_row-requires
is_row-requires c = search count_of

pub loop-preserved : goal.loop-preserved
loop-preserved c = search rows_on

pub returns-in-loop : goal.returns-in-loop
returns-in-loop c = search rows_bad

pub returns : goal.returns
returns c = search rows_done
