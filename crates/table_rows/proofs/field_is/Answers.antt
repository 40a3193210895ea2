use Rattle.table_lines.proofs.Fields.{start_most}
use Rattle.table_rows.proofs.Values.{matched}
use Rattle.table_rows.proofs.field_is.Goals as goal

pub slice_bounds-begins_with-count : goal.slice_bounds-begins_with-count
slice_bounds-begins_with-count c = search start_most

pub slice_bounds-begins_with-start : goal.slice_bounds-begins_with-start
slice_bounds-begins_with-start c = search start_most

pub returns : goal.returns
returns c = search matched
