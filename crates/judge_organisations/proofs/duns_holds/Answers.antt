use Rattle.judge_organisations.proofs.Numbers.{duns_none, duns_one}
use Rattle.judge_organisations.proofs.duns_holds.Goals as goal

pub returns-in_default : goal.returns-in_default
returns-in_default c = search duns_none

pub returns : goal.returns
returns c = search duns_one
