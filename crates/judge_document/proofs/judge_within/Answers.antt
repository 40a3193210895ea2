use Rattle.judge_document.proofs.Judged.{judged_left}
use Rattle.judge_document.proofs.judge_within.Goals as goal

pub returns : goal.returns
returns c = search judged_left
