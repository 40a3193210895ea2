use Rattle.judge_operations.proofs.Entities.{other_37, none_37}
use borrow.Author.Tests.{not-true, not-false}
use Rattle.judge_operations.proofs.breaks_37.Goals as goal

pub returns-then-not-has_establishment : goal.returns-then-not-has_establishment
returns-then-not-has_establishment c = search (other_37, not-true)

pub returns : goal.returns
returns c = search (none_37, not-false)
