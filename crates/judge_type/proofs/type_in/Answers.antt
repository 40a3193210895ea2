use Rattle.judge_type.proofs.Drafted.{type_is}
use borrow.Author.Rules.{rules}
use Rattle.judge_type.proofs.type_in.Goals as goal

pub returns : goal.returns
returns c = (search type_is, search rules)
