use Rattle.judge_root.proofs.Children.{nine_is}
use Rattle.judge_root.proofs.breaks_9.Goals as goal

pub returns : goal.returns
returns c = search nine_is
