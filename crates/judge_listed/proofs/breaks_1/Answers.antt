use Rattle.judge_listed.proofs.Laws.{one_at_root, one_elsewhere}
use Rattle.judge_listed.proofs.breaks_1.Goals as goal

pub returns-then-is_role : goal.returns-then-is_role
returns-then-is_role c = search one_at_root

pub returns : goal.returns
returns c = search one_elsewhere
