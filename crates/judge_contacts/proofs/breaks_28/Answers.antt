use Rattle.judge_contacts.proofs.Telecoms.{other_28, none_28}
use borrow.Author.Tests.{not-true, not-false}
use Rattle.judge_contacts.proofs.breaks_28.Goals as goal

pub returns-then-not-has_telecoms : goal.returns-then-not-has_telecoms
returns-then-not-has_telecoms c = search (other_28, not-true)

pub returns : goal.returns
returns c = search (none_28, not-false)
