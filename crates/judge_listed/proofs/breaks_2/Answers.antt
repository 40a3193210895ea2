use Rattle.judge_listed.proofs.Laws.{two_is}
use Rattle.judge_listed.proofs.breaks_2.Goals as goal

pub returns : goal.returns
returns c = search two_is
