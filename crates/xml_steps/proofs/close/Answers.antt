use mathlib.Core.Path.{refl}
use lib.ListN.{length-set}
use Rattle.xml_steps.specs.Walked.{reading}
use Rattle.xml_steps.proofs.Steps.{deep_enough, parent_fits, first_fits, first_next_fits, first_before, content_low, top_inside, rows_inside, few_rows, other_name, too_long, is_closed}
use borrow.Author.Rules.{rules}
use Rattle.xml_steps.proofs.close.Goals as goal

pub overflow_mul-k : goal.overflow_mul-k
unfolding reading
overflow_mul-k c = search rules

pub overflow_add-parent : goal.overflow_add-parent
unfolding reading
overflow_add-parent c = search rules

pub offset_bounds-rows-k : goal.offset_bounds-rows-k
unfolding reading
offset_bounds-rows-k c = search rules

pub bounds-rows-k : goal.bounds-rows-k
unfolding reading
bounds-rows-k c = search rules

pub overflow_cast-parent : goal.overflow_cast-parent
overflow_cast-parent c = search parent_fits

pub overflow_add-first : goal.overflow_add-first
unfolding reading
overflow_add-first c = search rules

pub offset_bounds-rows-k-2 : goal.offset_bounds-rows-k-2
unfolding reading
offset_bounds-rows-k-2 c = search rules

pub bounds-rows-k-2 : goal.bounds-rows-k-2
unfolding reading
bounds-rows-k-2 c = search rules

pub overflow_cast-first : goal.overflow_cast-first
overflow_cast-first c = search first_fits

pub overflow_add-first-2 : goal.overflow_add-first-2
overflow_add-first-2 c = search first_next_fits

pub overflow_add-reader : goal.overflow_add-reader
unfolding reading
overflow_add-reader c = search rules

pub same_name-requires : goal.same_name-requires
same_name-requires c = search first_before

pub content_fits-requires : goal.content_fits-requires
content_fits-requires c = (search top_inside, search rows_inside, search content_low, search few_rows)

pub overflow_cast-rows : goal.overflow_cast-rows
unfolding reading
overflow_cast-rows c = search rules

pub overflow_add-rows : goal.overflow_add-rows
unfolding reading
overflow_add-rows c = search rules

pub offset_bounds-rows-k-then-content_fits : goal.offset_bounds-rows-k-then-content_fits
unfolding reading
offset_bounds-rows-k-then-content_fits c = search rules

pub bounds-rows-k-then-content_fits : goal.bounds-rows-k-then-content_fits
unfolding reading
bounds-rows-k-then-content_fits c = search rules

pub overflow_sub-result : goal.overflow_sub-result
overflow_sub-result c = search deep_enough

pub shape_of-rows-then-content_fits : goal.shape_of-rows-then-content_fits
unfolding reading
shape_of-rows-then-content_fits c = search rules

pub returns-then-content_fits : goal.returns-then-content_fits
returns-then-content_fits c = (search is_closed, simp length-set)

pub shape_of-rows-then-same_name : goal.shape_of-rows-then-same_name
unfolding reading
shape_of-rows-then-same_name c = search rules

pub returns-then-same_name : goal.returns-then-same_name
returns-then-same_name c = (search (too_long c.args.s.now c.args.reader c.args.rows.now c.args.after c.requires.0), refl)

pub returns : goal.returns
returns c = (search (other_name c.args.s.now c.args.reader c.args.rows.now c.args.after c.requires.0), refl)
