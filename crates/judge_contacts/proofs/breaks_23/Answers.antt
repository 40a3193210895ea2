use Rattle.judge_contacts.proofs.Parties.{holds_23, party_23}
use borrow.Author.Tests.{not-true, not-false}
use Rattle.judge_contacts.proofs.breaks_23.Goals as goal

pub returns-then-not-has_contact : goal.returns-then-not-has_contact
returns-then-not-has_contact c = search (holds_23, not-true)

pub returns : goal.returns
returns c = search (party_23, not-false)
