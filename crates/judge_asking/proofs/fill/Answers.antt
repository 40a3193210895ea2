use Rattle.judge_asking.proofs.Filled.{tofill_start, tofill_room, tofill_fits, tofill_next, tofill_over_count, tofill_over_marks}
use borrow.Author.Rules.{rules}
use Rattle.judge_asking.proofs.fill.Goals as goal

pub loop-n-init : goal.loop-n-init
loop-n-init c = (search tofill_start, search rules)

pub bounds-marks-n : goal.bounds-marks-n
bounds-marks-n c = search tofill_room

pub overflow_add-total : goal.overflow_add-total
overflow_add-total c = search (tofill_fits, rules)

pub loop-n-preserved : goal.loop-n-preserved
loop-n-preserved c = (search tofill_next, search rules)

pub returns : goal.returns
returns c = (search tofill_over_count, search tofill_over_marks)
