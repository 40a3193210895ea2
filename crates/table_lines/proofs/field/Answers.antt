use Rattle.table_lines.proofs.Runs.{ahead, within}
use Rattle.table_lines.proofs.Fields.{start_most, field_part}
use Rattle.table_lines.proofs.field.Goals as goal

pub slice_bounds-result-count : goal.slice_bounds-result-count
slice_bounds-result-count c = search ahead

pub returns : goal.returns
returns c = search field_part

pub slice_bounds-result-start : goal.slice_bounds-result-start
slice_bounds-result-start c = search ahead

pub slice_bounds-result-end : goal.slice_bounds-result-end
slice_bounds-result-end c = search (within, start_most)
