use Rattle.judge_contacts.proofs.Parties.{other_30, nobody_30, person_30, only_30}
use borrow.Author.Tests.{not-true, not-false}
use Rattle.judge_contacts.proofs.breaks_30.Goals as goal

pub returns-then-not-is_role : goal.returns-then-not-is_role
returns-then-not-is_role c = search (other_30, not-true)

pub returns-then-not-has_contact : goal.returns-then-not-has_contact
returns-then-not-has_contact c = search (nobody_30, not-true, not-false)

pub returns-then-person_holds : goal.returns-then-person_holds
returns-then-person_holds c = search (person_30, not-false)

pub returns : goal.returns
returns c = search (only_30, not-false)
