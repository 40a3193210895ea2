-- `xml_references::text_end` meets its contract. The invariant: the text's end is the end of the walk from i.
use Prim.Native.Nat.{◌-◌}
use lib.ListN.{length}
use Rattle.xml_references.proofs.Ends.{InText}
use Rattle.xml_references.proofs.text_end.Given as goal

abbrev pub invariant-loop-i : goal.invariant-loop-i
invariant-loop-i l = InText l.s l.at l.i

abbrev pub decreases-loop-i : goal.decreases-loop-i
decreases-loop-i l = length l.s - l.i
