use Rattle.judge_input.proofs.Cleared.{clear_start, clear_room, clear_next, clear_over}
use Rattle.judge_input.proofs.clear.Goals as goal

pub loop-k-init : goal.loop-k-init
loop-k-init c = search clear_start

pub bounds-scratch-k : goal.bounds-scratch-k
bounds-scratch-k c = search clear_room

pub loop-k-preserved : goal.loop-k-preserved
loop-k-preserved c = search clear_next

pub returns : goal.returns
returns c = search clear_over
