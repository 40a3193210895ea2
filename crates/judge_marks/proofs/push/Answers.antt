use Rattle.judge_marks.proofs.Appended.{push_one, push_zero, push_none}
use borrow.Author.Rules.{rules}
use Rattle.judge_marks.proofs.push.Goals as goal

pub returns-then-broken : goal.returns-then-broken
returns-then-broken c = search (push_one, push_zero, push_none, rules)

pub returns-then-m-lt4611686018427387904 : goal.returns-then-m-lt4611686018427387904
returns-then-m-lt4611686018427387904 c = search (push_one, push_zero, push_none, rules)

pub returns : goal.returns
returns c = search (push_one, push_zero, push_none, rules)
