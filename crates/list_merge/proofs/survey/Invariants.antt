-- `list_merge::survey` meets its contract.
-- The invariant: what is answered from the start is what is answered from here.
use Prim.Native.Nat.{◌+◌, ◌-◌}
use lib.ListN.{length}
use Rattle.list_findings.specs.Findings.{flat}
use Rattle.list_steps.proofs.Counts.{Counts}
use Rattle.list_merge.specs.Next.{Place}
use Rattle.list_merge.proofs.survey.Given as goal

abbrev pub invariant-loop-first : goal.invariant-loop-first
invariant-loop-first l = Counts (flat l.a) (flat l.b) l.i l.j l.n × Place l.a l.i × Place l.b l.j

abbrev pub decreases-loop-first : goal.decreases-loop-first
decreases-loop-first l = length (flat l.a) - l.i + (length (flat l.b) - l.j)
