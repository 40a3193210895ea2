use Rattle.judge_addresses.proofs.Addresses.{holder_24, other_24}
use Rattle.judge_addresses.proofs.breaks_24.Goals as goal

pub returns-in-19 : goal.returns-in-19
returns-in-19 c = search holder_24

pub returns-in_default : goal.returns-in_default
returns-in_default c = search other_24
