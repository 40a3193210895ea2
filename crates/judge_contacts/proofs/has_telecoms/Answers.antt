use Rattle.judge_contacts.proofs.Telecoms.{telecoms_of, telecoms_none}
use Rattle.judge_contacts.proofs.has_telecoms.Goals as goal

pub returns-in-21 : goal.returns-in-21
returns-in-21 c = search telecoms_of

pub returns-in_default : goal.returns-in_default
returns-in_default c = search telecoms_none
