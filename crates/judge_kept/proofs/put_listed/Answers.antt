use Rattle.judge_kept.proofs.Stored.{listed_stored}
use Rattle.judge_kept.proofs.put_listed.Goals as goal

pub returns : goal.returns
returns c = search listed_stored
