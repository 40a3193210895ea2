-- `xml_references::decode_at` meets its contract. The invariant: what is left to store at i, stored from n on, makes what the whole makes.
use Prim.Native.Nat.{◌-◌}
use lib.ListN.{length}
use Rattle.xml_references.proofs.Writes.{Wrote}
use Rattle.xml_references.proofs.decode_at.Given as goal

abbrev pub invariant-loop-i : goal.invariant-loop-i
invariant-loop-i l = Wrote l.raw l.initial.out l.start l.out l.n l.i

abbrev pub decreases-loop-i : goal.decreases-loop-i
decreases-loop-i l = length l.raw - l.i
