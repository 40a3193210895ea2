use Rattle.list_steps.proofs.Walk.{leave_falls, keep_falls}
use Rattle.list_steps.proofs.Counts.{counts_start, count_over, count_fault, count_leave, count_keep}
use Rattle.list_merge.proofs.Places.{count_fits, start, leave_first, leave_second, keep_first, keep_second}
use Rattle.list_merge.proofs.survey.Goals as goal

pub loop-first-init : goal.loop-first-init
loop-first-init c = search (counts_start, start)

pub returns-in-Over : goal.returns-in-Over
returns-in-Over c = search count_over

pub returns-in-Fault : goal.returns-in-Fault
returns-in-Fault c = search count_fault

pub loop-first-smaller-in-Leave : goal.loop-first-smaller-in-Leave
loop-first-smaller-in-Leave c = search leave_falls

pub loop-first-preserved-in-Leave : goal.loop-first-preserved-in-Leave
loop-first-preserved-in-Leave c = search (count_leave, leave_first, leave_second)

pub overflow_add-n : goal.overflow_add-n
overflow_add-n c = search count_fits

pub loop-first-smaller : goal.loop-first-smaller
loop-first-smaller c = search keep_falls

pub loop-first-preserved : goal.loop-first-preserved
loop-first-preserved c = search (count_keep, keep_first, keep_second)
