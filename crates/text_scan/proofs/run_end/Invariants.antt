-- `text_scan::run_end` meets its contract. The invariant: the run's end, told from `at`, is its end told from `end`.
use Prim.Native.Nat.{◌-◌}
use lib.ListN.{length}
use Rattle.text_scan.proofs.Lists.{Run}
use Rattle.text_scan.proofs.run_end.Given as goal

abbrev pub invariant-loop-end : goal.invariant-loop-end
invariant-loop-end g l = Run g.C.ByteClass.members l.s l.at l.end

abbrev pub decreases-loop-end : goal.decreases-loop-end
decreases-loop-end g l = length l.s - l.end
