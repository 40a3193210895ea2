use Rattle.judge_organisations.proofs.Names.{name_judged, name_elsewhere, no_name}
use Rattle.judge_organisations.proofs.is_one_name.Goals as goal

pub returns-then-is_organisation : goal.returns-then-is_organisation
returns-then-is_organisation c = search name_judged

pub returns-then-is_role : goal.returns-then-is_role
returns-then-is_role c = search name_elsewhere

pub returns : goal.returns
returns c = search no_name
