use Rattle.judge_lookup.proofs.Laws.{is_sized}
use Rattle.judge_noted.proofs.Judged.{no_index}
use borrow.Author.Rules.{rules}
use Rattle.judge_noted.proofs.judge.Goals as goal

pub judge_indexed-requires : goal.judge_indexed-requires
judge_indexed-requires c = (search rules, search rules, search rules, search is_sized)

pub judge_served-requires : goal.judge_served-requires
judge_served-requires c = (search rules, search rules, search rules, search no_index)
