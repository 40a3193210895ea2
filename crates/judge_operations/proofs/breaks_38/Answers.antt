use Rattle.judge_operations.proofs.Entities.{other_38, nci_38, entity_38}
use borrow.Author.Tests.{not-true, not-false}
use Rattle.judge_operations.proofs.breaks_38.Goals as goal

pub returns-then-not-is_role : goal.returns-then-not-is_role
returns-then-not-is_role c = search (other_38, not-true)

pub returns-then-of_nci : goal.returns-then-of_nci
returns-then-of_nci c = search (nci_38, not-false)

pub returns : goal.returns
returns c = search (entity_38, not-false)
