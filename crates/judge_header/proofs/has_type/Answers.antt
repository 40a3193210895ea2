use Rattle.judge_header.proofs.Holds.{code_is_lem}
use Rattle.judge_header.proofs.has_type.Goals as goal

pub returns : goal.returns
returns c = search code_is_lem
