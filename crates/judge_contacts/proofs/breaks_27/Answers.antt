use Rattle.judge_contacts.proofs.Telecoms.{other_27, none_27}
use borrow.Author.Tests.{not-true, not-false}
use Rattle.judge_contacts.proofs.breaks_27.Goals as goal

pub returns-then-not-has_telecoms : goal.returns-then-not-has_telecoms
returns-then-not-has_telecoms c = search (other_27, not-true)

pub returns : goal.returns
returns c = search (none_27, not-false)
