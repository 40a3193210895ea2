-- `sort_compare::fields::compare_value` meets its contract.
use Rattle.sort_compare.proofs.Parts.{Comparing}
use lib.ListN.{length}
use Prim.Native.Nat.{◌≤◌}
use Rattle.sort_compare.proofs.fields.compare_value.Given as goal

abbrev pub invariant-loop-k : goal.invariant-loop-k
invariant-loop-k l = (l.k ≤ length l.x) × Comparing l.x l.value l.any l.k
