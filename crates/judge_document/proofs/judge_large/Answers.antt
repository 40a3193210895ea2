use borrow.Author.Rules.{rules}
use Rattle.judge_document.proofs.judge_large.Goals as goal

pub judge_within-requires : goal.judge_within-requires
judge_within-requires c = (search rules, search rules, search rules, search rules)
