-- `sort_compare::fields::field_end` meets its contract.
use Rattle.sort_compare.proofs.Parts.{Ending}
use lib.ListN.{length}
use Prim.Native.Nat.{◌≤◌, max}
use Rattle.sort_compare.proofs.fields.field_end.Given as goal

abbrev pub invariant-loop-i : goal.invariant-loop-i
invariant-loop-i l = (l.i ≤ max l.from (length l.s)) × Ending l.s l.at l.i
