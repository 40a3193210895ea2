use Rattle.judge_root.proofs.Children.{twelve_asks, twelve_no_version, twelve_no_set, twelve_elsewhere}
use Rattle.judge_root.proofs.demand_12.Goals as goal

pub returns-then-version_holds : goal.returns-then-version_holds
returns-then-version_holds c = search twelve_asks

pub returns-then-set_holds : goal.returns-then-set_holds
returns-then-set_holds c = search twelve_no_version

pub returns-then-is_role : goal.returns-then-is_role
returns-then-is_role c = search twelve_no_set

pub returns : goal.returns
returns c = search twelve_elsewhere
