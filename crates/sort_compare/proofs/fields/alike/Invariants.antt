-- `sort_compare::fields::alike` meets its contract.
use Rattle.sort_compare.proofs.Parts.{Alike}
use Rattle.sort_compare.proofs.fields.alike.Given as goal

abbrev pub invariant-loop-k : goal.invariant-loop-k
invariant-loop-k l = Alike l.x l.y l.k
