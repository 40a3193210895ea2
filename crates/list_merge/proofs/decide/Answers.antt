use Rattle.list_merge.proofs.Places.{decide_over, decide_second, decide_first, decide_both}
use Rattle.list_merge.proofs.decide.Goals as goal

pub returns-in-None-None : goal.returns-in-None-None
returns-in-None-None c = search decide_over

pub returns-in-None-Some : goal.returns-in-None-Some
returns-in-None-Some c = search decide_second

pub returns-in-Some-None : goal.returns-in-Some-None
returns-in-Some-None c = search decide_first

pub returns-in-Some-Some : goal.returns-in-Some-Some
returns-in-Some-Some c = search decide_both
