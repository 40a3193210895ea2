use Rattle.xml_references.proofs.Quiet.{past_block}
use Rattle.xml_references.proofs.past_quiet.Goals as goal

pub loop-i-preserved : goal.loop-i-preserved
loop-i-preserved c = search past_block
