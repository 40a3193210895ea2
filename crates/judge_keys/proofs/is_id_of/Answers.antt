use Rattle.judge_keys.proofs.Codes.{root_asked, other_holder, no_id}
use Rattle.judge_keys.proofs.is_id_of.Goals as goal

pub returns-then-is_role-2 : goal.returns-then-is_role-2
returns-then-is_role-2 c = search root_asked

pub returns-then-is_role : goal.returns-then-is_role
returns-then-is_role c = search other_holder

pub returns : goal.returns
returns c = search no_id
