-- `table_lines::line_at` meets its contract. The invariant: n fields are passed and all are right, and what is left of the line decides the rest.
use Prim.Native.Nat.{◌≤◌, ◌-◌}
use lib.ListN.{length}
use Rattle.text_scan.proofs.Lists.{Run}
use Rattle.table_lines.specs.Lines.{other}
use Rattle.table_lines.proofs.Counting.{Counting}
use Rattle.table_lines.proofs.line_at.Given as goal

abbrev pub invariant-loop-i : goal.invariant-loop-i
invariant-loop-i l = Run (other 10) l.s l.at l.i × Counting l.s l.at l.n l.start l.i × (l.start ≤ l.i) × (l.n ≤ l.i) × (l.n ≤ length l.s)

abbrev pub decreases-loop-i : goal.decreases-loop-i
decreases-loop-i l = length l.s - l.i
