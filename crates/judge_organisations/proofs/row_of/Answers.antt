use Rattle.judge_organisations.proofs.Names.{row_without_duns, row_of_name, row_without_extension}
use Rattle.judge_organisations.proofs.row_of.Goals as goal

pub returns-in_default : goal.returns-in_default
returns-in_default c = search row_without_duns

pub returns-then-has_extension : goal.returns-then-has_extension
returns-then-has_extension c = search row_of_name

pub returns : goal.returns
returns c = search row_without_extension
