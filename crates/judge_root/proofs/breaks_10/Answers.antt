use Rattle.judge_root.proofs.Children.{ten_is}
use Rattle.judge_root.proofs.breaks_10.Goals as goal

pub returns : goal.returns
returns c = search ten_is
