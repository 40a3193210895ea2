use Rattle.judge_kept.proofs.Run.{other_told}
use Rattle.judge_kept.proofs.has_no_other.Goals as goal

pub returns : goal.returns
returns c = search other_told
