use Rattle.judge_root.proofs.Children.{thirteen_labelers, thirteen_untyped, thirteen_elsewhere}
use Rattle.judge_root.proofs.breaks_13.Goals as goal

pub returns-then-has_type : goal.returns-then-has_type
returns-then-has_type c = search thirteen_labelers

pub returns-then-is_role : goal.returns-then-is_role
returns-then-is_role c = search thirteen_untyped

pub returns : goal.returns
returns c = search thirteen_elsewhere
