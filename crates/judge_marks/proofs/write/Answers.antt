use Rattle.judge_marks.proofs.Appended.{writing_start, writing_room, writing_next, writing_over}
use Rattle.judge_marks.proofs.write.Goals as goal

pub loop-n-init : goal.loop-n-init
loop-n-init c = search writing_start

pub write_at-count-requires : goal.write_at-count-requires
write_at-count-requires c = search writing_room

pub loop-n-preserved : goal.loop-n-preserved
loop-n-preserved c = search writing_next

pub returns : goal.returns
returns c = search writing_over
