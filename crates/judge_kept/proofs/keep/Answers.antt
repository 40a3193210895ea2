use Rattle.judge_kept.proofs.Stored.{kept_stored}
use Rattle.judge_kept.proofs.keep.Goals as goal

pub returns : goal.returns
returns c = search kept_stored
