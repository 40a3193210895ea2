use Rattle.xml_steps.proofs.Names.{none_starts}
use Rattle.xml_steps.proofs.starts_name.Goals as goal

pub returns-then-s-k : goal.returns-then-s-k
returns-then-s-k c = search none_starts
