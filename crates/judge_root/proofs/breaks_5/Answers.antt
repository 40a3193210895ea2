use Rattle.judge_root.proofs.Children.{five_is}
use Rattle.judge_root.proofs.breaks_5.Goals as goal

pub returns : goal.returns
returns c = search five_is
