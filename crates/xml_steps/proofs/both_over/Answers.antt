use Rattle.xml_steps.proofs.Names.{over_both, over_not}
use Rattle.xml_steps.proofs.both_over.Goals as goal

pub returns-then-name_over : goal.returns-then-name_over
returns-then-name_over c = search over_both

pub returns : goal.returns
returns c = search over_not
