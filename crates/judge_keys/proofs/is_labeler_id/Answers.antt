use Rattle.judge_keys.proofs.Codes.{labeler_id_there, labeler_id_not}
use Rattle.judge_keys.proofs.is_labeler_id.Goals as goal

pub returns-then-is_id_of : goal.returns-then-is_id_of
returns-then-is_id_of c = search labeler_id_there

pub returns : goal.returns
returns c = search labeler_id_not
