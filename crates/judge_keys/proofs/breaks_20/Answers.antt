use Rattle.judge_keys.proofs.Codes.{wrong_code, no_code}
use Rattle.judge_keys.proofs.breaks_20.Goals as goal

pub returns-then-is_labeler_id : goal.returns-then-is_labeler_id
returns-then-is_labeler_id c = search wrong_code

pub returns : goal.returns
returns c = search no_code
