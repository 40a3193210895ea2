use Rattle.judge_root.proofs.Children.{six_asks, six_waits, six_elsewhere}
use Rattle.judge_root.proofs.demand_6.Goals as goal

pub returns-then-id_holds : goal.returns-then-id_holds
returns-then-id_holds c = search six_asks

pub returns-then-is_role : goal.returns-then-is_role
returns-then-is_role c = search six_waits

pub returns : goal.returns
returns c = search six_elsewhere
