use mathlib.Core.Path.{refl}
use Rattle.judge_below.proofs.Looking.{next_over, next_is, next_misses, next_other, next_ends}
use Rattle.judge_below.proofs.next.Goals as goal

pub returns-then-end-draft : goal.returns-then-end-draft
returns-then-end-draft c = search next_over

pub returns-then-is_placed : goal.returns-then-is_placed
returns-then-is_placed c = search (next_is _ _ _ _ _ c.byte_after-end.ensures _ refl _ _ c.loop-k.invariant)

pub loop-k-preserved-then-draft-k : goal.loop-k-preserved-then-draft-k
loop-k-preserved-then-draft-k c = search (next_other _ _ _ _ _ c.byte_after-end.ensures _ refl _ _ c.loop-k.invariant)

pub loop-k-preserved : goal.loop-k-preserved
loop-k-preserved c = search (next_misses _ _ _ _ _ c.byte_after-end.ensures _ refl _ _ c.loop-k.invariant)

pub returns : goal.returns
returns c = search next_ends
