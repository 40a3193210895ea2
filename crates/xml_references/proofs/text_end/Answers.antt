use Rattle.xml_references.proofs.Ends.{text_start, text_out, text_less, text_closes, text_bracket, text_other, text_bad, text_past, jump_room, jump_falls}
use Rattle.xml_references.proofs.text_end.Goals as goal

pub loop-i-init : goal.loop-i-init
loop-i-init c = text_start _ _

pub returns-then-here-eq60 : goal.returns-then-here-eq60
returns-then-here-eq60 c = search text_less

pub returns-then-closes : goal.returns-then-closes
returns-then-closes c = search text_closes

pub loop-i-preserved-then-here-eq93 : goal.loop-i-preserved-then-here-eq93
loop-i-preserved-then-here-eq93 c = search (text_bracket _ _ _ c.loop-i.invariant)

pub loop-i-preserved-then-here-ne38 : goal.loop-i-preserved-then-here-ne38
loop-i-preserved-then-here-ne38 c = search text_other

pub returns-in_default : goal.returns-in_default
returns-in_default c = search text_bad

pub overflow_add-i-in-loop-i : goal.overflow_add-i-in-loop-i
overflow_add-i-in-loop-i c = search jump_room

pub loop-i-smaller : goal.loop-i-smaller
loop-i-smaller c = search jump_falls

pub loop-i-preserved : goal.loop-i-preserved
loop-i-preserved c = search text_past

pub returns : goal.returns
returns c = search text_out
