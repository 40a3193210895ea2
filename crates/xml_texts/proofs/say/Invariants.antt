-- `xml_texts::say` meets its contract. The invariant: what is left to say at i, stored from n on, makes what the whole makes.
use Prim.Native.Nat.{◌-◌}
use Rattle.xml_texts.proofs.Texts.{Stored}
use Rattle.xml_texts.proofs.say.Given as goal

abbrev pub invariant-loop-i : goal.invariant-loop-i
invariant-loop-i l = Stored l.s l.a l.e l.initial.out l.out l.n l.i

abbrev pub decreases-loop-i : goal.decreases-loop-i
decreases-loop-i l = l.e - l.i
