-- `table_lines::pass` meets its contract. The invariant: the end of the run, told from `at`, is that told from i.
use Prim.Native.Nat.{◌-◌}
use lib.ListN.{length}
use Rattle.text_scan.proofs.Lists.{Run}
use Rattle.table_lines.proofs.pass.Given as goal

abbrev pub invariant-loop-i : goal.invariant-loop-i
invariant-loop-i g l = Run g.C.ByteClass.members l.s l.at l.i

abbrev pub decreases-loop-i : goal.decreases-loop-i
decreases-loop-i g l = length l.s - l.i
