-- `xml_compare::is_value` meets its contract. The invariant: the answer for all is that for what is left of both, from i and from n on.
use Prim.Native.Nat.{◌-◌}
use lib.ListN.{length}
use Rattle.xml_compare.proofs.Compared.{Compared}
use Rattle.xml_compare.proofs.is_value.Given as goal

abbrev pub invariant-loop-i : goal.invariant-loop-i
invariant-loop-i l = Compared l.raw l.bytes l.i l.n

abbrev pub decreases-loop-i : goal.decreases-loop-i
decreases-loop-i l = length l.raw - l.i
