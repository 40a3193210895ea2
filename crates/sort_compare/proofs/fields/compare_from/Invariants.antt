-- `sort_compare::fields::compare_from` meets its contract.
use Rattle.sort_compare.proofs.Comparing.{RowsFrom}
use lib.ListN.{length}
use Prim.Native.Nat.{◌+◌, ◌-◌, ◌<◌, ◌^◌}
use Rattle.sort_compare.proofs.fields.compare_from.Given as goal

abbrev pub invariant-loop-left : goal.invariant-loop-left
invariant-loop-left l = (l.i < 2 ^ 64) × (l.j < 2 ^ 64) × RowsFrom l.s l.a l.b l.fields l.folded l.i l.j l.left

abbrev pub decreases-loop-left : goal.decreases-loop-left
decreases-loop-left l = l.left + (length l.s - l.i)
