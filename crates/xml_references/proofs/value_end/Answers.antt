use Rattle.xml_references.proofs.Ends.{value_start_lem, value_empty, value_out, high_less, high_other, value_quote, value_less, value_other, value_bad, value_past, jump_room, jump_falls}
use Rattle.xml_references.proofs.value_end.Goals as goal

pub returns-then-first-quote : goal.returns-then-first-quote
returns-then-first-quote c = search value_empty

pub loop-i-init : goal.loop-i-init
loop-i-init c = search value_start_lem

pub returns-then-b-eq60 : goal.returns-then-b-eq60
returns-then-b-eq60 c = search high_less

pub loop-i-preserved-then-high-b : goal.loop-i-preserved-then-high-b
loop-i-preserved-then-high-b c = search high_other

pub returns-then-b-quote : goal.returns-then-b-quote
returns-then-b-quote c = search value_quote

pub returns-then-b-eq60-2 : goal.returns-then-b-eq60-2
returns-then-b-eq60-2 c = search value_less

pub loop-i-preserved-then-b-ne38 : goal.loop-i-preserved-then-b-ne38
loop-i-preserved-then-b-ne38 c = search value_other

pub returns-in_default : goal.returns-in_default
returns-in_default c = search value_bad

pub overflow_add-i-in-loop-i : goal.overflow_add-i-in-loop-i
overflow_add-i-in-loop-i c = search jump_room

pub loop-i-smaller : goal.loop-i-smaller
loop-i-smaller c = search jump_falls

pub loop-i-preserved : goal.loop-i-preserved
loop-i-preserved c = search value_past

pub returns : goal.returns
returns c = search value_out
