use Rattle.judge_operations.proofs.Entities.{entity_other, entity_of}
use borrow.Author.Tests.{not-true, not-false}
use Rattle.judge_operations.proofs.has_establishment.Goals as goal

pub returns-then-not-is_role : goal.returns-then-not-is_role
returns-then-not-is_role c = search (entity_other, not-true)

pub returns : goal.returns
returns c = search (entity_of, not-false)
