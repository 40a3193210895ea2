use Rattle.judge_registrations.proofs.Levels.{other_32, none_32}
use borrow.Author.Tests.{not-true, not-false}
use Rattle.judge_registrations.proofs.breaks_32.Goals as goal

pub returns-then-not-is_role : goal.returns-then-not-is_role
returns-then-not-is_role c = search (other_32, not-true)

pub returns : goal.returns
returns c = search (none_32, not-false)
