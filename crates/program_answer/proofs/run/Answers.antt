use Rattle.program_answer.proofs.Answers.{run_prints}
use Rattle.program_answer.proofs.run.Goals as goal

pub returns : goal.returns
returns c = search run_prints
