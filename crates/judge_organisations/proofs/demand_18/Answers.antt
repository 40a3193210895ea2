use Rattle.judge_organisations.proofs.Names.{row_demanded, row_without_name, row_of_no_name}
use Rattle.judge_organisations.proofs.demand_18.Goals as goal

pub returns-then-is_said : goal.returns-then-is_said
returns-then-is_said c = search row_demanded

pub returns-then-is_one_name : goal.returns-then-is_one_name
returns-then-is_one_name c = search row_without_name

pub returns : goal.returns
returns c = search row_of_no_name
