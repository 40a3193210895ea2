use Rattle.judge_header.proofs.Holds.{header_is}
use Rattle.judge_header.proofs.header_of.Goals as goal

pub returns : goal.returns
returns c = search header_is
