use Rattle.judge_paths.proofs.Words.{looked_none, looked_last, looked_is, looked_past, looked_next, word_ends, word_fits, after_fits}
use borrow.Author.Rules.{rules}
use Rattle.judge_paths.proofs.child_in.Goals as goal

pub loop-number-init : goal.loop-number-init
loop-number-init c = search looked_none

pub overflow_add-end : goal.overflow_add-end
overflow_add-end c = search (word_fits, rules)

pub slice_bounds-same-end : goal.slice_bounds-same-end
slice_bounds-same-end c = search word_ends

pub returns-then-number-roles : goal.returns-then-number-roles
returns-then-number-roles c = search (looked_last, looked_is, looked_past, looked_next)

pub returns-then-same : goal.returns-then-same
returns-then-same c = search (looked_last, looked_is, looked_past, looked_next)

pub overflow_add-at : goal.overflow_add-at
overflow_add-at c = search (after_fits, rules)

pub loop-number-preserved : goal.loop-number-preserved
loop-number-preserved c = search (looked_last, looked_is, looked_past, looked_next)

pub returns : goal.returns
returns c = search (looked_last, looked_is, looked_past, looked_next)
