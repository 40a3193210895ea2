use Rattle.judge_listed.proofs.Groups.{lists_code, lists_id, lists_none, lists_root, lists_set_id, lists_title, lists_value}
use Rattle.judge_listed.proofs.has_unlisted.Goals as goal

pub returns-in-2 : goal.returns-in-2
returns-in-2 c = search lists_root

pub returns-in-3 : goal.returns-in-3
returns-in-3 c = search lists_id

pub returns-in-8 : goal.returns-in-8
returns-in-8 c = search lists_set_id

pub returns-in-4 : goal.returns-in-4
returns-in-4 c = search lists_code

pub returns-in-7 : goal.returns-in-7
returns-in-7 c = search lists_value

pub returns-in-5 : goal.returns-in-5
returns-in-5 c = search lists_title

pub returns-in_default : goal.returns-in_default
returns-in_default c = search lists_none
