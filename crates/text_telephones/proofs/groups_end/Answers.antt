use Prim.Native.Nat.{◌-◌}
use Rattle.text_telephones.proofs.TelephoneLaws.{groups_start, groups_end_lem, groups_stop, groups_go, groups_fall}
use Rattle.text_telephones.proofs.groups_end.Goals as goal

pub loop-i-init : goal.loop-i-init
loop-i-init c = groups_start _ _

pub loop-i-smaller : goal.loop-i-smaller
loop-i-smaller c = search groups_fall

pub loop-i-preserved : goal.loop-i-preserved
loop-i-preserved c = search groups_go

pub returns-in-loop-i : goal.returns-in-loop-i
returns-in-loop-i c = search groups_stop

pub returns : goal.returns
returns c = search groups_end_lem
