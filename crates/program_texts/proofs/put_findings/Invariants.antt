-- `program_texts::put_findings` meets its contract.
use Prim.Native.Nat.{◌+◌, ◌*◌, ◌-◌, ◌≤◌}
use mathlib.Core.Path.{◌≡◌}
use lib.ListN.{length}
use Rattle.list_findings.specs.Findings.{width}
use Rattle.program_texts.proofs.Puts.{Told}
use Rattle.program_texts.proofs.put_findings.Given as goal

abbrev pub invariant-loop-i : goal.invariant-loop-i
invariant-loop-i l =
    (length l.out ≡ length l.initial.out)
    × (l.i * width ≤ length l.list)
    × (l.next + 21 * (length l.list - l.i * width) ≤ length l.out)
    × Told l.initial.out l.at l.list l.n l.out l.next (l.i * width) (l.n - l.i)
