use Rattle.list_merge.proofs.Answers.{judge_first, judge_second, judge_fault, judge_many, judge_findings}
use Rattle.list_merge.proofs.judge.Goals as goal

pub returns-in-Some : goal.returns-in-Some
returns-in-Some c = search judge_first

pub returns-in-Some-second : goal.returns-in-Some-second
returns-in-Some-second c = search judge_second

pub returns-in-Ok : goal.returns-in-Ok
returns-in-Ok c = search judge_many

pub returns-in-Err : goal.returns-in-Err
returns-in-Err c = search judge_fault

pub returns-in-Ok-2 : goal.returns-in-Ok-2
returns-in-Ok-2 c = search judge_findings
