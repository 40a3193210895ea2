use Rattle.table_lines.proofs.Runs.{ahead, line_within}
use Rattle.table_sets.proofs.FirstRow.{no_first, other_first, same_first}
use Rattle.table_sets.proofs.has_other_key.Goals as goal

pub returns-then-s-first : goal.returns-then-s-first
returns-then-s-first c = search no_first

pub slice_bounds-field_is-count : goal.slice_bounds-field_is-count
slice_bounds-field_is-count c = search ahead

pub slice_bounds-field_is-start : goal.slice_bounds-field_is-start
slice_bounds-field_is-start c = search ahead

pub slice_bounds-field_is-end : goal.slice_bounds-field_is-end
slice_bounds-field_is-end c = search line_within

pub returns-then-field_is : goal.returns-then-field_is
returns-then-field_is c = search same_first

pub returns : goal.returns
returns c = search other_first
