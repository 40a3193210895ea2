-- `list_merge::write` meets its contract.
-- The invariant: what all findings make, stored from the front, is what the rest makes, stored from here.
use Prim.Native.Nat.{◌+◌, ◌-◌, ◌*◌}
use lib.ListN.{length}
use Rattle.list_findings.specs.Findings.{flat, width}
use Rattle.list_steps.proofs.Writes.{Writes}
use Rattle.list_merge.specs.Next.{Place}
use Rattle.list_merge.proofs.write.Given as goal

abbrev pub invariant-loop-x : goal.invariant-loop-x
invariant-loop-x l = Writes (flat l.a) (flat l.b) l.initial.out l.out l.i l.j (l.n * width) × Place l.a l.i × Place l.b l.j

abbrev pub decreases-loop-x : goal.decreases-loop-x
decreases-loop-x l = length (flat l.a) - l.i + (length (flat l.b) - l.j)
