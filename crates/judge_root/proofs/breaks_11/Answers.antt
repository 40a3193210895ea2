use Rattle.judge_root.proofs.Children.{eleven_is}
use Rattle.judge_root.proofs.breaks_11.Goals as goal

pub returns : goal.returns
returns c = search eleven_is
