use Rattle.xml_markup.proofs.Instructions.{close_starts, close_unfinished, close_other, close_mark, close_found}
use Rattle.xml_markup.proofs.close_end.Goals as goal

pub loop-i-init : goal.loop-i-init
loop-i-init c = search close_starts

pub loop-i-preserved-then-s-i-ne63 : goal.loop-i-preserved-then-s-i-ne63
loop-i-preserved-then-s-i-ne63 c = search close_other

pub returns-then-byte-eq62 : goal.returns-then-byte-eq62
returns-then-byte-eq62 c = search (close_found _ _ _ c.loop-i.invariant)

pub loop-i-preserved : goal.loop-i-preserved
loop-i-preserved c = search (close_mark _ _ _ c.loop-i.invariant)

pub returns : goal.returns
returns c = search close_unfinished
