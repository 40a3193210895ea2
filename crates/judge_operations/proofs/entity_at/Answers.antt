use Rattle.judge_operations.proofs.Entities.{entity_here, entity_before}
use Rattle.judge_operations.proofs.entity_at.Goals as goal

pub returns-then-is_role : goal.returns-then-is_role
returns-then-is_role c = search entity_here

pub returns : goal.returns
returns c = search entity_before
