use Rattle.judge_keys.proofs.Codes.{labeler_is}
use Rattle.judge_keys.proofs.labeler_id.Goals as goal

pub returns : goal.returns
returns c = search labeler_is
