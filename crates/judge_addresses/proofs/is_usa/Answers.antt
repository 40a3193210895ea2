use Rattle.judge_addresses.proofs.Addresses.{usa_none, usa_one}
use Rattle.judge_addresses.proofs.is_usa.Goals as goal

pub returns-in_default : goal.returns-in_default
returns-in_default c = search usa_none

pub returns : goal.returns
returns c = search usa_one
