use Rattle.xml_steps.proofs.Names.{none_goes_on, goes_on_not}
use Rattle.xml_steps.proofs.name_over.Goals as goal

pub returns-then-s-k : goal.returns-then-s-k
returns-then-s-k c = search none_goes_on

pub returns : goal.returns
returns c = search goes_on_not
