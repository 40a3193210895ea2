use Rattle.judge_keys.proofs.Demanded.{other_without_set, other_is, other_wrong_set, other_no_key}
use Rattle.judge_keys.proofs.demand_22.Goals as goal

pub returns-in_default : goal.returns-in_default
returns-in_default c = search other_without_set

pub returns-then-set_holds : goal.returns-then-set_holds
returns-then-set_holds c = search other_is

pub returns-then-is_labeler_id : goal.returns-then-is_labeler_id
returns-then-is_labeler_id c = search other_wrong_set

pub returns : goal.returns
returns c = search other_no_key
