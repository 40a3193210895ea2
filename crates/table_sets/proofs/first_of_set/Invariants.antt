-- `table_sets::first_of_set` meets its contract.
use Rattle.table_sets.specs.SetKeys.{is_of_set}
use Rattle.table_sets.proofs.FirstRow.{Looking}
use Rattle.table_sets.proofs.first_of_set.Given as goal

abbrev pub invariant-loop : goal.invariant-loop
invariant-loop l = Looking (is_of_set l.kind l.set) l.s l.at l.count l.i l.counter
