-- `sort_compare::fields::near` meets its contract. The invariant: the k bytes at both places are the same, with no tab or line feed.
use mathlib.Core.Path.{◌≡◌}
use mathlib.Core.Bool.{true}
use Prim.Native.Nat.{◌≤◌}
use Rattle.sort_compare.specs.Units.{sharing, tabs_in}
use Rattle.sort_compare.proofs.fields.near.Given as goal

abbrev pub invariant-loop-k : goal.invariant-loop-k
invariant-loop-k l = (l.k ≤ l.n) × (sharing l.s l.i l.j l.k ≡ true) × (tabs_in l.s l.i l.k ≡ 0)
