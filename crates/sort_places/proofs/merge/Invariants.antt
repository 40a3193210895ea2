-- `sort_places::merge` meets its contract. The invariant: the first i of `left` and those of a before the place j are merged into the first k of a.
use Prim.Native.Nat.{◌+◌, ◌-◌, ◌≤◌}
use mathlib.Core.Path.{◌≡◌}
use mathlib.Core.List.{◌++◌}
use lib.ListN.{length, drop}
use Rattle.sort_compare.specs.Keys.{key_at}
use Rattle.sort_places.specs.Sorting.{with_place}
use Rattle.sort_places.proofs.Merging.{Merging}
use Rattle.sort_places.proofs.merge.Given as goal

abbrev pub invariant-loop-i : goal.invariant-loop-i
invariant-loop-i l = (l.i ≤ length l.left) × (l.j ≤ length l.initial.a) × (l.k + length l.left ≡ l.i + l.j) × (length l.a ≡ length l.initial.a) × Merging (with_place (key_at l.by l.s)) l.left (l.left ++ drop (length l.left) l.initial.a) l.i l.j l.k l.a

abbrev pub decreases-loop-i : goal.decreases-loop-i
decreases-loop-i l = length l.left - l.i + (length l.initial.a - l.j)
