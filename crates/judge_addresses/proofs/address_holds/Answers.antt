use Rattle.judge_addresses.proofs.Addresses.{address_none, address_one}
use Rattle.judge_addresses.proofs.address_holds.Goals as goal

pub returns-in_default : goal.returns-in_default
returns-in_default c = search address_none

pub returns : goal.returns
returns c = search address_one
