use Rattle.judge_document.proofs.Judged.{typed_left}
use Rattle.judge_document.proofs.judge_typed.Goals as goal

pub returns : goal.returns
returns c = search typed_left
