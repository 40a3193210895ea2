use Rattle.judge_below.proofs.Looking.{element_past, not_followed, followed}
use Rattle.judge_below.proofs.is_followed.Goals as goal

pub returns-then-draft-k : goal.returns-then-draft-k
returns-then-draft-k c = search element_past

pub returns-in-None : goal.returns-in-None
returns-in-None c = search not_followed

pub returns-in-Some : goal.returns-in-Some
returns-in-Some c = search followed
