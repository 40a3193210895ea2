use Rattle.judge_kept.proofs.Names.{listed_root, listed_id, listed_set_id, listed_code, listed_value, listed_title, listed_other}
use Rattle.judge_kept.proofs.listed_by.Goals as goal

pub returns-in-2 : goal.returns-in-2
returns-in-2 c = search listed_root

pub returns-in-3 : goal.returns-in-3
returns-in-3 c = search listed_id

pub returns-in-8 : goal.returns-in-8
returns-in-8 c = search listed_set_id

pub returns-in-4 : goal.returns-in-4
returns-in-4 c = search listed_code

pub returns-in-7 : goal.returns-in-7
returns-in-7 c = search listed_value

pub returns-in-5 : goal.returns-in-5
returns-in-5 c = search listed_title

pub returns-in_default : goal.returns-in_default
returns-in_default c = search listed_other
