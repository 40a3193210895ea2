use Rattle.judge_notes.proofs.Below.{same_parent}
use Rattle.judge_notes.proofs.role_at.Goals as goal

pub returns-then-n-last : goal.returns-then-n-last
returns-then-n-last c = search same_parent
