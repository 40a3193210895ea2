-- `table_rows::begins_with` meets its contract.
use Rattle.table_rows.proofs.Values.{Matching}
use Rattle.table_rows.proofs.begins_with.Given as goal

abbrev pub invariant-loop-j : goal.invariant-loop-j
invariant-loop-j l = Matching l.rest l.value l.j
