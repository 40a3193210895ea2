use Rattle.judge_header.proofs.Holds.{has_no_one, has_one}
use Rattle.judge_header.proofs.one_has.Goals as goal

pub returns-in-None : goal.returns-in-None
returns-in-None c = search has_no_one

pub returns-in-Some : goal.returns-in-Some
returns-in-Some c = search has_one
