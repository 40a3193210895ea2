use Rattle.judge_organisations.proofs.Numbers.{wrong_ids, ids_not_judged}
use Rattle.judge_organisations.proofs.breaks_15.Goals as goal

pub returns-then-is_organisation : goal.returns-then-is_organisation
returns-then-is_organisation c = search wrong_ids

pub returns : goal.returns
returns c = search ids_not_judged
