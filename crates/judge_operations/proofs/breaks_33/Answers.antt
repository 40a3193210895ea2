use Rattle.judge_operations.proofs.Codes.{other_33, none_33, one_33}
use borrow.Author.Tests.{not-true, not-false}
use Rattle.judge_operations.proofs.breaks_33.Goals as goal

pub returns-then-not-is_role : goal.returns-then-not-is_role
returns-then-not-is_role c = search (other_33, not-true)

pub returns-in_default : goal.returns-in_default
returns-in_default c = search (none_33, not-false)

pub returns : goal.returns
returns c = search (one_33, not-false)
