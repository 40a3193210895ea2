use Rattle.judge_noted.proofs.Judged.{served_left}
use Rattle.judge_noted.proofs.judge_by.Goals as goal

pub returns : goal.returns
returns c = search served_left
