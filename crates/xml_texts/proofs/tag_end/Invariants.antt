-- `xml_texts::tag_end` meets its contract. The invariant: the tag ends as the row of attributes from i on ends.
use Prim.Native.Nat.{◌-◌}
use lib.ListN.{length}
use Rattle.xml_texts.proofs.Texts.{TagEnds}
use Rattle.xml_texts.proofs.tag_end.Given as goal

abbrev pub invariant-loop-i : goal.invariant-loop-i
invariant-loop-i l = TagEnds l.s l.first l.i

abbrev pub decreases-loop-i : goal.decreases-loop-i
decreases-loop-i l = length l.s - l.i
