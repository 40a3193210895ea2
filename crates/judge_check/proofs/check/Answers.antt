use Rattle.judge_check.proofs.Chain.{not_admitted, admitted_scratch, all_admitted}
use Rattle.judge_check.proofs.check.Goals as goal

pub check_under-requires : goal.check_under-requires
check_under-requires c = search admitted_scratch

pub returns-in-Err : goal.returns-in-Err
returns-in-Err c = search not_admitted

pub returns-in-Ok : goal.returns-in-Ok
returns-in-Ok c = search all_admitted
