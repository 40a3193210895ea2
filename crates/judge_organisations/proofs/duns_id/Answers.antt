use Rattle.judge_organisations.proofs.Numbers.{duns_is}
use Rattle.judge_organisations.proofs.duns_id.Goals as goal

pub returns : goal.returns
returns c = search duns_is
