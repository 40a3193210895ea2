use Rattle.judge_contacts.proofs.Telecoms.{other_26, few_26}
use borrow.Author.Tests.{not-true, not-false}
use Rattle.judge_contacts.proofs.breaks_26.Goals as goal

pub returns-then-not-has_telecoms : goal.returns-then-not-has_telecoms
returns-then-not-has_telecoms c = search (other_26, not-true)

pub returns : goal.returns
returns c = search (few_26, not-false)
