use Rattle.xml_texts.proofs.Texts.{ends_out, ends_here, ends_other, ends_said, ends_dropped, said_falls, dropped_falls}
use Rattle.xml_texts.proofs.content_end.Goals as goal

pub loop-i-smaller-in-Said : goal.loop-i-smaller-in-Said
loop-i-smaller-in-Said c = search said_falls

pub loop-i-preserved-in-Said : goal.loop-i-preserved-in-Said
loop-i-preserved-in-Said c = search ends_said

pub loop-i-smaller : goal.loop-i-smaller
loop-i-smaller c = search dropped_falls

pub loop-i-preserved : goal.loop-i-preserved
loop-i-preserved c = search ends_dropped

pub returns-in-Ended : goal.returns-in-Ended
returns-in-Ended c = search ends_here

pub returns-in-Other : goal.returns-in-Other
returns-in-Other c = search ends_other

pub returns : goal.returns
returns c = search ends_out
