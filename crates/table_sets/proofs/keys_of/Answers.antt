use Rattle.table_lines.proofs.Runs.{ahead, within}
use Rattle.table_sets.proofs.FirstRow.{told_most, keys_told}
use Rattle.table_sets.proofs.keys_of.Goals as goal

pub slice_bounds-field-count : goal.slice_bounds-field-count
slice_bounds-field-count c = search ahead

pub slice_bounds-field-start : goal.slice_bounds-field-start
slice_bounds-field-start c = search ahead

pub slice_bounds-field-end : goal.slice_bounds-field-end
slice_bounds-field-end c = search (within, told_most)

pub returns : goal.returns
returns c = search keys_told
