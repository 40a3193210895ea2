use Rattle.judge_organisations.proofs.Numbers.{wrong_duns, duns_not_judged}
use Rattle.judge_organisations.proofs.breaks_16.Goals as goal

pub returns-then-is_organisation : goal.returns-then-is_organisation
returns-then-is_organisation c = search wrong_duns

pub returns : goal.returns
returns c = search duns_not_judged
