use Rattle.judge_header.proofs.Holds.{number_is}
use Rattle.judge_header.proofs.version_holds.Goals as goal

pub returns : goal.returns
returns c = search number_is
