use Rattle.program_answer.proofs.Answers.{findings_printed, refusal_printed}
use Rattle.program_answer.proofs.put_answer.Goals as goal

pub returns-in-Ok : goal.returns-in-Ok
returns-in-Ok c = search findings_printed

pub returns-in-Err : goal.returns-in-Err
returns-in-Err c = search refusal_printed
