use Rattle.judge_root.proofs.Children.{seven_is}
use Rattle.judge_root.proofs.breaks_7.Goals as goal

pub returns : goal.returns
returns c = search seven_is
