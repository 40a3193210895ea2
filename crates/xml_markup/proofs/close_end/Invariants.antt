-- `xml_markup::close_end` meets its contract. The invariant: the end that is looked for is the end of the walk from i.
use Rattle.xml_markup.proofs.Instructions.{InData}
use Rattle.xml_markup.proofs.close_end.Given as goal

abbrev pub invariant-loop-i : goal.invariant-loop-i
invariant-loop-i l = InData l.s l.at l.i
