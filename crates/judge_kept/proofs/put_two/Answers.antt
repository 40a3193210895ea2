use Rattle.judge_kept.proofs.Stored.{two_places}
use Rattle.judge_kept.proofs.put_two.Goals as goal

pub returns : goal.returns
returns c = search two_places
