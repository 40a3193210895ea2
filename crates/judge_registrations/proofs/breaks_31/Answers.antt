use Rattle.judge_registrations.proofs.Levels.{other_31, none_31, one_31}
use borrow.Author.Tests.{not-true, not-false}
use Rattle.judge_registrations.proofs.breaks_31.Goals as goal

pub returns-then-not-is_role : goal.returns-then-not-is_role
returns-then-not-is_role c = search (other_31, not-true)

pub returns-in-None : goal.returns-in-None
returns-in-None c = search (none_31, not-false)

pub returns-in-Some : goal.returns-in-Some
returns-in-Some c = search (one_31, not-false)
