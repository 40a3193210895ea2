-- `text_chars::first_bad` meets its contract. The invariant: the walk from the start is the walk from i.
use Prim.Native.Nat.{◌-◌}
use lib.ListN.{length}
use Rattle.text_chars.proofs.Walked.{At}
use Rattle.text_chars.proofs.first_bad.Given as goal

abbrev pub invariant-loop-i : goal.invariant-loop-i
invariant-loop-i l = At l.s l.i

abbrev pub decreases-loop-i : goal.decreases-loop-i
decreases-loop-i l = length l.s - l.i
