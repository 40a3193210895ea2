use Rattle.judge_root.proofs.Children.{one_registering, one_requesting, two_requesting}
use Rattle.judge_root.proofs.has_one_labeler.Goals as goal

pub returns-then-requesting-eq0 : goal.returns-then-requesting-eq0
returns-then-requesting-eq0 c = search one_registering

pub returns-then-requesting-eq1 : goal.returns-then-requesting-eq1
returns-then-requesting-eq1 c = search one_requesting

pub returns : goal.returns
returns c = search two_requesting
