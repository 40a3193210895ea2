-- `sort_places::copy` meets its contract. The invariant: the first i numbers are copied.
use mathlib.Core.Path.{◌≡◌}
use lib.ListN.{length}
use Rattle.sort_places.proofs.Copying.{Copied}
use Rattle.sort_places.proofs.copy.Given as goal

abbrev pub invariant-loop-i : goal.invariant-loop-i
invariant-loop-i l = (length l.to ≡ length l.initial.to) × Copied l.from l.to l.i
