use Rattle.table_index.proofs.Runs.{part_fits, run_length, filled}
use Rattle.table_index.proofs.fill.Goals as goal

pub slice_bounds-arrange-end : goal.slice_bounds-arrange-end
slice_bounds-arrange-end c = search part_fits

pub shape_of-index : goal.shape_of-index
shape_of-index c = search run_length

pub returns : goal.returns
returns c = search filled
