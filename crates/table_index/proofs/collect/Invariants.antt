-- `table_index::collect` meets its contract.
use Rattle.table_index.proofs.Collecting.{Collecting}
use Rattle.table_index.specs.Indexed.{keeps_row}
use Prim.Native.Nat.{◌-◌, ◌≤◌}
use mathlib.Core.Path.{◌≡◌}
use lib.ListN.{length}
use Rattle.table_index.proofs.collect.Given as goal

abbrev pub invariant-loop : goal.invariant-loop
invariant-loop l = (l.n ≤ l.counter) × (length l.run ≡ length l.initial.run) × Collecting l.q (keeps_row l.q l.a l.c) l.s l.at l.count l.initial.run l.run l.n l.i (l.count - l.counter)
