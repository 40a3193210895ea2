-- `table_rows::some_row` meets its contract.
use Rattle.table_rows.specs.Rows.{is_asked}
use Rattle.table_rows.proofs.Walk.{Walking}
use Rattle.table_rows.proofs.some_row.Given as goal

abbrev pub invariant-loop : goal.invariant-loop
invariant-loop l = Walking (is_asked l.q l.a l.b l.c) l.s l.at l.count l.i l.counter
