use borrow.Author.Rules.{rules}
use Rattle.xml_references.specs.Quiet.{quiet_for}
use Rattle.xml_references.proofs.Quiet.{more, whole}
use Rattle.xml_references.proofs.quiet_block.Goals as goal

pub loop-k-init : goal.loop-k-init
unfolding quiet_for
loop-k-init c = search rules

pub loop-k-preserved : goal.loop-k-preserved
loop-k-preserved c = search more

pub returns : goal.returns
returns c = search whole
