use Rattle.judge_check.proofs.Chain.{under_fits, under_room, under_nested, under_few, under_refused, under_judged}
use Rattle.judge_check.proofs.check_under.Goals as goal

pub overflow_mul-count : goal.overflow_mul-count
overflow_mul-count c = search under_fits

pub slice_bounds-judge-end : goal.slice_bounds-judge-end
slice_bounds-judge-end c = search under_room

pub judge-requires : goal.judge-requires
judge-requires c = (search under_nested, search under_few)

pub returns-in-Err : goal.returns-in-Err
returns-in-Err c = search under_refused

pub returns-in-Ok : goal.returns-in-Ok
returns-in-Ok c = search under_judged
