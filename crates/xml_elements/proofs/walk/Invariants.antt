-- `xml_elements::walk` meets its contract. The invariant: the reading from the start is the reading from here, and it is sound.
use Prim.Native.Nat.{◌-◌}
use mathlib.Core.Path.{◌≡◌}
use lib.ListN.{length}
use Rattle.xml_elements.proofs.Walks.{Told}
use Rattle.xml_elements.proofs.walk.Given as goal

abbrev pub invariant-loop-reader : goal.invariant-loop-reader
invariant-loop-reader l = Told l.s l.reader l.rows × (length l.rows ≡ length l.initial.rows)

abbrev pub decreases-loop-reader : goal.decreases-loop-reader
decreases-loop-reader l = length l.s - l.reader.at
