use Rattle.judge_operations.proofs.Entities.{held_before}
use Rattle.judge_operations.proofs.held_at.Goals as goal

pub returns-then-n-last : goal.returns-then-n-last
returns-then-n-last c = search held_before
