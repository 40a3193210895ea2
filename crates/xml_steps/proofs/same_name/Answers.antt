use Rattle.xml_steps.proofs.Names.{from_start, from_none}
use Rattle.xml_steps.proofs.same_name.Goals as goal

pub returns-then-starts_name : goal.returns-then-starts_name
returns-then-starts_name c = search from_start

pub returns : goal.returns
returns c = search from_none
