use Rattle.judge_keys.proofs.Codes.{only_id, not_only_id}
use Rattle.judge_keys.proofs.is_only_id.Goals as goal

pub returns-then-is_only : goal.returns-then-is_only
returns-then-is_only c = search only_id

pub returns : goal.returns
returns c = search not_only_id
