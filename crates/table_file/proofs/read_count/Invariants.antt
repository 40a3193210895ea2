-- `table_file::read_count` meets its contract. The invariant: digits of the value v are passed, and what is left decides the rest.
use Prim.Native.Nat.{◌≤◌, ◌-◌}
use lib.ListN.{length}
use Rattle.xml_reader.specs.Limits.{rows_limit}
use Rattle.table_file.proofs.Counts.{Counting}
use Rattle.table_file.proofs.read_count.Given as goal

abbrev pub invariant-loop-b : goal.invariant-loop-b
invariant-loop-b l = Counting l.line l.v l.b-index × (l.v ≤ rows_limit)
