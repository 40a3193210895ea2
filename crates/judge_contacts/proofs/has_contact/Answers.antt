use Rattle.judge_contacts.proofs.Parties.{contact_of, contact_none}
use Rattle.judge_contacts.proofs.has_contact.Goals as goal

pub returns-in-17 : goal.returns-in-17
returns-in-17 c = search contact_of

pub returns-in_default : goal.returns-in_default
returns-in_default c = search contact_none
