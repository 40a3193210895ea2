use Rattle.judge_marks.proofs.Appended.{record_is}
use borrow.Author.Rules.{rules}
use Rattle.judge_marks.proofs.finding.Goals as goal

pub returns : goal.returns
returns c = search (record_is, rules)
