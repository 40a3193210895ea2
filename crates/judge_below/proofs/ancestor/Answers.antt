use Rattle.judge_below.proofs.Looking.{not_up, up, here}
use Rattle.judge_below.proofs.ancestor.Goals as goal

pub loop-init : goal.loop-init
loop-init c = search not_up

pub loop-preserved : goal.loop-preserved
loop-preserved c = search up

pub returns : goal.returns
returns c = search here
