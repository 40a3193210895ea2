-- `text_chars::walk_to` meets its contract. The invariant: the walk from `at` is the walk from i.
use mathlib.Core.Path.{◌≡◌}
use Prim.Native.Nat.{◌-◌}
use Rattle.text_chars.specs.Blocks.{bad_from}
use Rattle.text_chars.proofs.walk_to.Given as goal

abbrev pub invariant-loop-i : goal.invariant-loop-i
invariant-loop-i l = bad_from l.s l.at ≡ bad_from l.s l.i

abbrev pub decreases-loop-i : goal.decreases-loop-i
decreases-loop-i l = l.end - l.i
