use Rattle.judge_kept.proofs.Stored.{last_stored}
use Rattle.judge_kept.proofs.put_last.Goals as goal

pub returns : goal.returns
returns c = search last_stored
