use Rattle.list_steps.proofs.Walk.{leave_falls, keep_falls}
use Rattle.list_steps.proofs.Writes.{writes_start, write_over, write_fault, write_leave}
use Rattle.list_merge.proofs.Places.{start, leave_first, leave_second, keep_first, keep_second}
use Rattle.list_merge.proofs.Appends.{append_keep}
use Rattle.list_merge.proofs.write.Goals as goal

pub loop-x-init : goal.loop-x-init
loop-x-init c = search (writes_start, start)

pub returns-in-Over : goal.returns-in-Over
returns-in-Over c = search write_over

pub returns-in-Fault : goal.returns-in-Fault
returns-in-Fault c = search write_fault

pub loop-x-smaller-in-Leave : goal.loop-x-smaller-in-Leave
loop-x-smaller-in-Leave c = search leave_falls

pub loop-x-preserved-in-Leave : goal.loop-x-preserved-in-Leave
loop-x-preserved-in-Leave c = search (write_leave, leave_first, leave_second)

pub loop-x-smaller : goal.loop-x-smaller
loop-x-smaller c = search keep_falls

pub loop-x-preserved : goal.loop-x-preserved
loop-x-preserved c = search (append_keep, keep_first, keep_second)
