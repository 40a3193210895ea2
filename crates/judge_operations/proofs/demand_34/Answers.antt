use Rattle.judge_operations.proofs.Codes.{row_34, other_34}
use Rattle.judge_operations.proofs.demand_34.Goals as goal

pub returns-then-is_role : goal.returns-then-is_role
returns-then-is_role c = search row_34

pub returns : goal.returns
returns c = search other_34
