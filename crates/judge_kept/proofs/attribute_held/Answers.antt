use Rattle.judge_kept.proofs.Run.{held_listed, held_empty, not_held}
use Rattle.judge_kept.proofs.attribute_held.Goals as goal

pub returns-then-k-lt3 : goal.returns-then-k-lt3
returns-then-k-lt3 c = search held_listed

pub returns-then-has_no_other : goal.returns-then-has_no_other
returns-then-has_no_other c = search held_empty

pub returns : goal.returns
returns c = search not_held
