-- `table_lines::field_start` meets its contract. The invariant: the start, told from the line's front, is that told from i, with fewer tabs to pass.
use Prim.Native.Nat.{◌-◌}
use lib.ListN.{length}
use Rattle.table_lines.proofs.Fields.{Starting}
use Rattle.table_lines.proofs.field_start.Given as goal

abbrev pub invariant-loop-i : goal.invariant-loop-i
invariant-loop-i l = Starting l.line l.k l.left l.i

abbrev pub decreases-loop-i : goal.decreases-loop-i
decreases-loop-i l = length l.line - l.i
