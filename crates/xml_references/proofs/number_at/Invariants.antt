-- `xml_references::number_at` meets its contract. The invariant: the number from the start is the number from w bytes behind i, and its value
-- so far is a code point.
use Prim.Native.Nat.{◌+◌, ◌≤◌}
use lib.ListN.{length}
use Rattle.xml_references.proofs.Digits.{Left}
use Rattle.xml_references.proofs.number_at.Given as goal

abbrev pub invariant-loop-w : goal.invariant-loop-w
invariant-loop-w l = (Left l.s l.i l.start l.base l.v l.w) × (l.i + l.w ≤ length l.s) × (l.v ≤ 0x10FFFF)
