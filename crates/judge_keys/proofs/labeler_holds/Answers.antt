use Rattle.judge_keys.proofs.Codes.{labeler_none, labeler_one}
use Rattle.judge_keys.proofs.labeler_holds.Goals as goal

pub returns-in_default : goal.returns-in_default
returns-in_default c = search labeler_none

pub returns : goal.returns
returns c = search labeler_one
