use Rattle.judge_addresses.proofs.Addresses.{said_none, said_one}
use Rattle.judge_addresses.proofs.one_said.Goals as goal

pub returns-in_default : goal.returns-in_default
returns-in_default c = search said_none

pub returns : goal.returns
returns c = search said_one
