-- `sort_compare::compare_names` meets its contract. The invariant: the names compare as what is left of them, which goes on with the bytes
-- x and y; each is the byte that stands there, or 0 where the name ends.
use Prim.Native.Nat.{◌-◌, ◌≤◌}
use lib.ListN.{length, get_or}
use Rattle.sort_compare.proofs.Bytes.{Compares}
use Rattle.sort_compare.proofs.compare_names.Given as goal

abbrev pub invariant-loop-x : goal.invariant-loop-x
invariant-loop-x l = (l.x ≤ get_or l.s l.i 0) × (l.y ≤ get_or l.s l.j 0) × Compares l.s l.a l.b l.i l.j l.x l.y

abbrev pub decreases-loop-x : goal.decreases-loop-x
decreases-loop-x l = length l.s - l.i
