use Rattle.judge_below.proofs.Looking.{none_past, none_below, some_below}
use Rattle.judge_below.proofs.none.Goals as goal

pub returns-then-draft-n : goal.returns-then-draft-n
returns-then-draft-n c = search none_past

pub returns-in-None : goal.returns-in-None
returns-in-None c = search none_below

pub returns-in-Some : goal.returns-in-Some
returns-in-Some c = search some_below
