use Rattle.judge_header.proofs.Holds.{set_is}
use Rattle.judge_header.proofs.set_holds.Goals as goal

pub returns : goal.returns
returns c = search set_is
