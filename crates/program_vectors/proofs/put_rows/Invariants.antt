-- `program_vectors::put_rows` meets its contract.
use Rattle.program_vectors.proofs.Rooms.{Room}
use Rattle.program_vectors.proofs.put_rows.Given as goal

abbrev pub invariant-loop-k : goal.invariant-loop-k
invariant-loop-k l = Room l.count l.initial.out l.out l.next l.k
