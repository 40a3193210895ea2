-- `list_records::keep` meets its contract.
-- The invariant: what all records make, stored one after the other, is what the rest makes, stored from here.
use Rattle.list_records.proofs.Keeping.{Keeping}
use Rattle.list_records.proofs.keep.Given as goal

abbrev pub invariant-loop-i : goal.invariant-loop-i
invariant-loop-i l = Keeping l.list l.n l.initial.room l.at l.room l.i
