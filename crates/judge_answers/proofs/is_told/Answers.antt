use Rattle.judge_answers.proofs.Runs.{told_here, not_told}
use Rattle.judge_answers.proofs.is_told.Goals as goal

pub returns-then-places-s : goal.returns-then-places-s
returns-then-places-s c = search told_here

pub returns : goal.returns
returns c = search not_told
