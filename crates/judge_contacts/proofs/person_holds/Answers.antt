use Rattle.judge_contacts.proofs.Parties.{person_none, person_one}
use Rattle.judge_contacts.proofs.person_holds.Goals as goal

pub returns-in_default : goal.returns-in_default
returns-in_default c = search person_none

pub returns : goal.returns
returns c = search person_one
