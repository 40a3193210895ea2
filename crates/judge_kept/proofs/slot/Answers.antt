use Rattle.judge_kept.proofs.Names.{slot_root, slot_id, slot_set_id, slot_code, slot_value, slot_title, slot_other}
use Rattle.judge_kept.proofs.slot.Goals as goal

pub returns-in-2 : goal.returns-in-2
returns-in-2 c = search slot_root

pub returns-in-3 : goal.returns-in-3
returns-in-3 c = search slot_id

pub returns-in-8 : goal.returns-in-8
returns-in-8 c = search slot_set_id

pub returns-in-4 : goal.returns-in-4
returns-in-4 c = search slot_code

pub returns-in-7 : goal.returns-in-7
returns-in-7 c = search slot_value

pub returns-in-5 : goal.returns-in-5
returns-in-5 c = search slot_title

pub returns-in_default : goal.returns-in_default
returns-in_default c = search slot_other
