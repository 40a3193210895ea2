use Rattle.judge_lookup.proofs.Laws.{codes_stay}
use borrow.Author.Rules.{rules}
use Rattle.judge_lookup.proofs.serve_rows.Goals as goal

pub fill_part-requires : goal.fill_part-requires
fill_part-requires c = (search rules, search rules, search rules)

pub fill_part-requires-2 : goal.fill_part-requires-2
fill_part-requires-2 c = (search rules, search rules, search rules)

pub returns : goal.returns
returns c = (search codes_stay, search rules)
