use Rattle.judge_organisations.proofs.Names.{text_there}
use Rattle.judge_organisations.proofs.is_said.Goals as goal

pub returns : goal.returns
returns c = search text_there
