use Rattle.judge_marks.proofs.Appended.{counted_start, counted_none, counted_fits, counted_next, counted_over}
use borrow.Author.Rules.{rules}
use Rattle.judge_marks.proofs.how_many.Goals as goal

pub loop-init : goal.loop-init
loop-init c = search counted_start

pub returns-then-m-eq0 : goal.returns-then-m-eq0
returns-then-m-eq0 c = search counted_none

pub overflow_add-found : goal.overflow_add-found
overflow_add-found c = search (counted_fits, rules)

pub loop-preserved : goal.loop-preserved
loop-preserved c = search counted_next

pub returns : goal.returns
returns c = search counted_over
