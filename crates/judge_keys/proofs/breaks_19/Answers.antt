use Rattle.judge_keys.proofs.Codes.{wrong_labeler, no_request}
use Rattle.judge_keys.proofs.breaks_19.Goals as goal

pub returns-then-is_role : goal.returns-then-is_role
returns-then-is_role c = search wrong_labeler

pub returns : goal.returns
returns c = search no_request
