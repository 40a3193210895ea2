-- `text_scan::text_read_at` meets its contract. The invariant: what is left of the text stands where the loop is.
use mathlib.Core.List.{map}
use Rattle.text_scan.proofs.Lists.{Left}
use Rattle.text_scan.proofs.text_read_at.Given as goal

abbrev pub invariant-loop-b : goal.invariant-loop-b
invariant-loop-b g l = Left l.t (map g.C.Case.read l.s) l.at l.b-index l.i
