use Rattle.std.proofs.lemmas.Result.{err_from_is_err_and}
use Rattle.table_lines.proofs.Runs.{ahead}
use Rattle.table_file.proofs.Reading.{section_no_feed, section_bad, section_rows, section_refused}
use Rattle.table_file.proofs.section_at.Goals as goal

pub returns-then-s-e : goal.returns-then-s-e
returns-then-s-e c = search section_no_feed

pub slice_bounds-read_count-count : goal.slice_bounds-read_count-count
slice_bounds-read_count-count c = search ahead

pub slice_bounds-read_count-start : goal.slice_bounds-read_count-start
slice_bounds-read_count-start c = search ahead

pub returns-in_default : goal.returns-in_default
returns-in_default c = search section_bad

pub returns-in_err-after : goal.returns-in_err-after
returns-in_err-after c = let p = err_from_is_err_and c.from_residual.result c.from_residual.ensures.1 in rw (p.1, p.2) (search (section_refused, c.in_err-after.ensures))

pub returns : goal.returns
returns c = search (section_rows, c.in_ok-after.ensures)
