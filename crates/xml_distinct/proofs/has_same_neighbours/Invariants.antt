-- `xml_distinct::has_same_neighbours` meets its contract. The invariant: no two neighbours before the place i are the same.
use Prim.Native.Nat.{◌≤◌}
use Rattle.xml_distinct.proofs.Neighbours.{Asked}
use Rattle.xml_distinct.proofs.has_same_neighbours.Given as goal

abbrev pub invariant-loop-i : goal.invariant-loop-i
invariant-loop-i l = (1 ≤ l.i) × Asked l.s l.a l.i
