use borrow.Author.Rules.{rules}
use Rattle.judge_noted.proofs.judge_indexed.Goals as goal

pub judge_by-requires : goal.judge_by-requires
judge_by-requires c = (search rules, search rules, search rules, search rules, search rules)
