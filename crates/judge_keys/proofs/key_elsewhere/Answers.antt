use Rattle.judge_keys.proofs.Demanded.{elsewhere_without_set, elsewhere_is, elsewhere_wrong_set}
use Rattle.judge_keys.proofs.key_elsewhere.Goals as goal

pub returns-in_default : goal.returns-in_default
returns-in_default c = search elsewhere_without_set

pub returns-then-set_holds : goal.returns-then-set_holds
returns-then-set_holds c = search elsewhere_is

pub returns : goal.returns
returns c = search elsewhere_wrong_set
