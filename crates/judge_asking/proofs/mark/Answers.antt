use Rattle.judge_asking.proofs.Marked.{marking_start, marking_inside, marking_skip, marking_next, marking_over}
use Rattle.judge_asking.proofs.mark.Goals as goal

pub loop-i-init : goal.loop-i-init
loop-i-init c = search marking_start

pub bounds-row-i : goal.bounds-row-i
bounds-row-i c = search marking_inside

pub loop-i-preserved-then-is_behind : goal.loop-i-preserved-then-is_behind
loop-i-preserved-then-is_behind c = search marking_skip

pub loop-i-preserved : goal.loop-i-preserved
loop-i-preserved c = search marking_next

pub returns : goal.returns
returns c = search marking_over
