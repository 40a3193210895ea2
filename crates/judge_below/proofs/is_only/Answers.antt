use Rattle.judge_below.proofs.Looking.{holder_past, more_behind, none_at_all, first_of_all}
use Rattle.judge_below.proofs.is_only.Goals as goal

pub returns-then-draft-n : goal.returns-then-draft-n
returns-then-draft-n c = search holder_past

pub returns-then-is_followed : goal.returns-then-is_followed
returns-then-is_followed c = search more_behind

pub returns-in-None : goal.returns-in-None
returns-in-None c = search none_at_all

pub returns-in-Some : goal.returns-in-Some
returns-in-Some c = search first_of_all
