use Rattle.judge_answers.proofs.Runs.{no_part, its_part}
use Rattle.judge_answers.proofs.part.Goals as goal

pub returns-then-index : goal.returns-then-index
returns-then-index c = search no_part

pub returns : goal.returns
returns c = search its_part
