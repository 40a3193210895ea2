-- `list_merge::first_bad` meets its contract.
-- The invariant: what is found from the start is what is found from here.
use Rattle.list_merge.proofs.Records.{Bad}
use Rattle.list_merge.proofs.first_bad.Given as goal

abbrev pub invariant-loop-n : goal.invariant-loop-n
invariant-loop-n l = Bad l.list l.last l.n
