-- `table_search::search` meets its contract. The invariant: the key that is asked for is at no place before low, and at none from high on.
use Prim.Native.Nat.{◌-◌, ◌≤◌}
use lib.ListN.{length}
use Rattle.table_index.specs.Indexed.{key_from}
use Rattle.table_search.proofs.Searching.{Searching}
use Rattle.table_search.proofs.search.Given as goal

abbrev pub invariant-loop-low : goal.invariant-loop-low
invariant-loop-low l = (l.high ≤ length l.run) × Searching l.q l.s (key_from l.q l.a l.b l.c) l.run l.low l.high

abbrev pub decreases-loop-low : goal.decreases-loop-low
decreases-loop-low l = l.high - l.low
