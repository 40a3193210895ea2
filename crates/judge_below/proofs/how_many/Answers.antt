use mathlib.Core.Path.{refl}
use Rattle.judge_below.proofs.Looking.{counted_none, counted_over, counted_one, counted_misses, counted_other, counted_ends, counted_fits, many_past}
use borrow.Author.Rules.{rules}
use Rattle.judge_below.proofs.how_many.Goals as goal
use Rattle.judge_below.proofs.how_many.Goals.{then-is_placed, else-is_placed}

pub returns-then-draft-n : goal.returns-then-draft-n
returns-then-draft-n c = search many_past

pub loop-k-init : goal.loop-k-init
loop-k-init c = search counted_none

pub returns-then-end-draft : goal.returns-then-end-draft
returns-then-end-draft c = search counted_over

pub overflow_add-found : goal.overflow_add-found
overflow_add-found c = search (counted_fits, rules)

pub loop-k-preserved-then-draft-k : goal.loop-k-preserved-then-draft-k
loop-k-preserved-then-draft-k c = search (counted_other _ _ _ _ _ c.byte_after-end.ensures _ refl _ _ c.loop-k.invariant)

pub loop-k-preserved : goal.loop-k-preserved
loop-k-preserved c =
    elim c.if-is_placed.branch [
      | then-is_placed w ↦ rw w.found-is (search (counted_one _ _ _ _ _ c.byte_after-end.ensures _ refl _ _ c.loop-k.invariant))
      | else-is_placed w ↦ rw w.found-is (search (counted_misses _ _ _ _ _ c.byte_after-end.ensures _ refl _ _ c.loop-k.invariant))
    ]

pub returns : goal.returns
returns c = search counted_ends
