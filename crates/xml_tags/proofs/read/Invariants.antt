-- `xml_tags::read` meets its contract. The invariant: what the reading brings and keeps, told from `at`, is that told from i.
use Prim.Native.Nat.{◌-◌, ◌≤◌}
use mathlib.Core.Path.{◌≡◌}
use lib.ListN.{length}
use Rattle.xml_tags.proofs.Reading.{Brings}
use Rattle.xml_attributes.proofs.Keeping.{Keeps}
use Rattle.xml_tags.proofs.read.Given as goal

abbrev pub invariant-loop-i : goal.invariant-loop-i
invariant-loop-i l = Brings l.s l.at l.i l.count l.over × Keeps l.s l.at l.initial.starts l.i l.count l.starts × (length l.starts ≡ length l.initial.starts) × (l.count ≤ l.i)

abbrev pub decreases-loop-i : goal.decreases-loop-i
decreases-loop-i l = length l.s - l.i
