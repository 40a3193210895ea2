-- `table_file::rows_end` meets its contract. The invariant: the end, told from `at`, is that told from i; so many rows are passed.
use Rattle.table_file.proofs.Reading.{InRows}
use Rattle.table_file.proofs.rows_end.Given as goal

abbrev pub invariant-loop : goal.invariant-loop
invariant-loop l = InRows l.kind l.s l.at l.n l.i l.counter
