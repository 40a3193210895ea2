use Rattle.judge_both.proofs.Steps.{first_refused, both_checked}
use Rattle.judge_both.proofs.check_both.Goals as goal

pub returns-in-Err : goal.returns-in-Err
returns-in-Err c = search first_refused

pub returns-in-Ok : goal.returns-in-Ok
returns-in-Ok c = search both_checked
