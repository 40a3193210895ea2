use Rattle.judge_header.proofs.Holds.{id_is}
use Rattle.judge_header.proofs.id_holds.Goals as goal

pub returns : goal.returns
returns c = search id_is
