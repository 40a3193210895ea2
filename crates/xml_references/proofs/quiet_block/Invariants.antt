-- `xml_references::quiet_block` meets its contract. The invariant: whether the k bytes from i on are quiet.
use mathlib.Core.Path.{◌≡◌}
use Rattle.xml_references.specs.Quiet.{quiet_for}
use Rattle.xml_references.proofs.quiet_block.Given as goal

abbrev pub invariant-loop-k : goal.invariant-loop-k
invariant-loop-k l = l.all ≡ quiet_for l.s l.i l.k
