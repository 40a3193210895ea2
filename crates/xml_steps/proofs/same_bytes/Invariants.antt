-- `xml_steps::same_bytes` meets its contract. The invariant: the answer from i and j is the answer from a and b.
use Rattle.xml_steps.proofs.Names.{Left}
use lib.ListN.{length}
use Prim.Native.Nat.{◌-◌, ◌≤◌}
use Rattle.xml_steps.proofs.same_bytes.Given as goal

abbrev pub invariant-loop-b : goal.invariant-loop-b
invariant-loop-b l = Left l.s l.i l.j l.a l.b × (l.a ≤ l.b)

abbrev pub decreases-loop-b : goal.decreases-loop-b
decreases-loop-b l = length l.s - l.b
