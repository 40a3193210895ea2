use Rattle.judge_organisations.proofs.Numbers.{has_none, has_it}
use Rattle.judge_organisations.proofs.has_one.Goals as goal

pub returns-in-None : goal.returns-in-None
returns-in-None c = search has_none

pub returns-in-Some : goal.returns-in-Some
returns-in-Some c = search has_it
