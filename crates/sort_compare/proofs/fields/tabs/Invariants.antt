-- `sort_compare::fields::tabs` meets its contract.
use mathlib.Core.Path.{◌≡◌}
use Prim.Native.Nat.{◌≤◌}
use Rattle.sort_compare.specs.Units.{tabs_in}
use Rattle.sort_compare.proofs.fields.tabs.Given as goal

abbrev pub invariant-loop-k : goal.invariant-loop-k
invariant-loop-k l = (l.k ≤ l.n) × (l.found ≤ l.k) × (l.found ≡ tabs_in l.s l.i l.k)
