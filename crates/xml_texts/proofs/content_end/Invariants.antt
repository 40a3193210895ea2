-- `xml_texts::content_end` meets its contract. The invariant: the content from a on ends where the content from i on ends.
use Prim.Native.Nat.{◌-◌}
use lib.ListN.{length}
use Rattle.xml_texts.proofs.Texts.{ContentEnds}
use Rattle.xml_texts.proofs.content_end.Given as goal

abbrev pub invariant-loop-i : goal.invariant-loop-i
invariant-loop-i l = ContentEnds l.s l.a l.i

abbrev pub decreases-loop-i : goal.decreases-loop-i
decreases-loop-i l = length l.s - l.i
