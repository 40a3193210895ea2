use Rattle.judge_root.proofs.Children.{eight_asks, eight_waits, eight_elsewhere}
use Rattle.judge_root.proofs.demand_8.Goals as goal

pub returns-then-has_type : goal.returns-then-has_type
returns-then-has_type c = search eight_asks

pub returns-then-is_role : goal.returns-then-is_role
returns-then-is_role c = search eight_waits

pub returns : goal.returns
returns c = search eight_elsewhere
