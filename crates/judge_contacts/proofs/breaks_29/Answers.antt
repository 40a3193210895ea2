use Rattle.judge_contacts.proofs.Telecoms.{other_29, mail_29, value_29}
use borrow.Author.Tests.{not-true, not-false}
use Rattle.judge_contacts.proofs.breaks_29.Goals as goal

pub returns-then-not-is_role : goal.returns-then-not-is_role
returns-then-not-is_role c = search (other_29, not-true)

pub returns-then-not-attribute_begins : goal.returns-then-not-attribute_begins
returns-then-not-attribute_begins c = search (mail_29, not-true, not-false)

pub returns : goal.returns
returns c = search (value_29, not-false)
