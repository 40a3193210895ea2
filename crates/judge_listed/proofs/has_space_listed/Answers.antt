use Rattle.judge_listed.proofs.Spaces.{space_at_code, space_at_id, space_elsewhere}
use Rattle.judge_listed.proofs.has_space_listed.Goals as goal

pub returns-in-3 : goal.returns-in-3
returns-in-3 c = search space_at_id

pub returns-in-4 : goal.returns-in-4
returns-in-4 c = search space_at_code

pub returns-in_default : goal.returns-in_default
returns-in_default c = search space_elsewhere
