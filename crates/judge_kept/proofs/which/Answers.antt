use Rattle.judge_kept.proofs.Names.{is_first, is_second, is_third, is_none}
use Rattle.judge_kept.proofs.which.Goals as goal

pub returns-then-same : goal.returns-then-same
returns-then-same c = search is_first

pub returns-then-same-2 : goal.returns-then-same-2
returns-then-same-2 c = search is_second

pub returns-then-same-3 : goal.returns-then-same-3
returns-then-same-3 c = search is_third

pub returns : goal.returns
returns c = search is_none
