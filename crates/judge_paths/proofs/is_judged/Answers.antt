use Rattle.judge_paths.proofs.Children.{not_known, not_author, in_typed}
use borrow.Author.Rules.{rules}
use Rattle.judge_paths.proofs.is_judged.Goals as goal

pub returns-then-parent-le-UNLISTED : goal.returns-then-parent-le-UNLISTED
returns-then-parent-le-UNLISTED c = search (not_known, not_author, in_typed, rules)

pub returns-in-Neither : goal.returns-in-Neither
returns-in-Neither c = search (not_known, not_author, in_typed, rules)

pub returns-in-Registration : goal.returns-in-Registration
returns-in-Registration c = search (not_known, not_author, in_typed, rules)

pub returns-in-Request : goal.returns-in-Request
returns-in-Request c = search (not_known, not_author, in_typed, rules)

pub returns : goal.returns
returns c = search (not_known, not_author, in_typed, rules)
