use Rattle.judge_paths.proofs.Children.{child_named, child_not_judged}
use borrow.Author.Rules.{rules}
use Rattle.judge_paths.proofs.child_role.Goals as goal

pub returns-then-is_judged : goal.returns-then-is_judged
returns-then-is_judged c = search (child_named, child_not_judged, rules)

pub returns : goal.returns
returns c = search (child_named, child_not_judged, rules)
