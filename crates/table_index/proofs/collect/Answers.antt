use Rattle.table_index.proofs.Collecting.{collect_starts, collect_past, collect_puts, collect_passes, collect_over}
use native.Mathlib.Omega.{arith}
use mathlib.Core.Path.{refl}
use Rattle.sort_places.proofs.Merging.{length_kept}
use Rattle.table_lines.proofs.Runs.{ahead, line_within, line_fits}
use Rattle.table_index.proofs.RowKeys.{place_fits}
use borrow.Author.Rules.{rules}
use Rattle.table_index.proofs.collect.Goals as goal
use Rattle.table_index.proofs.collect.Goals.{then-keeps, else-keeps}

pub loop-init : goal.loop-init
loop-init c = (omega arith, refl, search collect_starts)

pub returns-then-s-i : goal.returns-then-s-i
returns-then-s-i c = search (collect_past _ _ _ _ _ _ _ _ _ _ c.loop.invariant.2)

pub slice_bounds-keeps-count : goal.slice_bounds-keeps-count
slice_bounds-keeps-count c = search ahead

pub slice_bounds-keeps-start : goal.slice_bounds-keeps-start
slice_bounds-keeps-start c = search ahead

pub slice_bounds-keeps-end : goal.slice_bounds-keeps-end
slice_bounds-keeps-end c = search line_within

pub overflow_cast-run : goal.overflow_cast-run
overflow_cast-run c = search place_fits

pub overflow_add-i : goal.overflow_add-i
overflow_add-i c = search line_fits

pub loop-preserved : goal.loop-preserved
loop-preserved c =
    elim c.if-keeps.branch [
      | then-keeps w ↦ (omega arith, rw w.run-is (search length_kept), rw (w.run-is, w.n-is) (search (collect_puts _ _ _ _ _ _ _ _ _ _ c.loop.invariant.2)))
      | else-keeps w ↦ (omega arith, rw w.run-is (search rules), rw (w.run-is, w.n-is) (search collect_passes))
    ]

pub returns : goal.returns
returns c = search (collect_over _ _ _ _ _ _ _ _ _ _ c.loop.invariant.2)
