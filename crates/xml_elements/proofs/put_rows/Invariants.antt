-- `xml_elements::put_rows` meets its contract. The invariant: the rows of the first k elements are written, and the rest is as it was.
use Prim.Native.Nat.{◌*◌, ◌≤◌}
use mathlib.Core.Path.{◌≡◌}
use lib.ListN.{length}
use Rattle.xml_elements.proofs.Rows.{Copied}
use Rattle.xml_elements.proofs.put_rows.Given as goal

abbrev pub invariant-loop-k : goal.invariant-loop-k
invariant-loop-k l = (l.k ≤ l.n) × (length l.table ≡ length l.initial.table) × Copied l.rows l.initial.table l.table (4 * l.k)
