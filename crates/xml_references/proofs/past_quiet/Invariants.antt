-- `xml_references::past_quiet` meets its contract. The invariant: the value ends where it ends from i on.
use mathlib.Core.Path.{◌≡◌}
use Prim.Native.Nat.{◌-◌}
use lib.ListN.{length}
use Rattle.xml_references.specs.Runs.{value_end}
use Rattle.xml_references.proofs.past_quiet.Given as goal

abbrev pub invariant-loop-i : goal.invariant-loop-i
invariant-loop-i l = value_end l.s l.quote l.at ≡ value_end l.s l.quote l.i

abbrev pub decreases-loop-i : goal.decreases-loop-i
decreases-loop-i l = length l.s - l.i
