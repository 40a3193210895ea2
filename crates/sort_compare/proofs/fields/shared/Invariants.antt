-- `sort_compare::fields::shared` meets its contract. The invariant: the k bytes at both places are the same, and none is a line feed.
use mathlib.Core.Path.{◌≡◌}
use mathlib.Core.Bool.{true}
use Prim.Native.Nat.{◌≤◌}
use Rattle.sort_compare.specs.Units.{sharing}
use Rattle.sort_compare.proofs.fields.shared.Given as goal

abbrev pub invariant-loop-k : goal.invariant-loop-k
invariant-loop-k l = (l.k ≤ l.n) × (sharing l.s l.i l.j l.k ≡ true)
