-- `sort_compare::fields::shares_block` meets its contract. The invariant: whether the k bytes at both places are the same, and none a line feed.
use mathlib.Core.Path.{◌≡◌}
use Prim.Native.Nat.{◌≤◌}
use Rattle.sort_compare.specs.Units.{sharing}
use Rattle.sort_compare.proofs.fields.shares_block.Given as goal

abbrev pub invariant-loop-k : goal.invariant-loop-k
invariant-loop-k l = (l.k ≤ 8) × (l.all ≡ sharing l.s l.i l.j l.k)
