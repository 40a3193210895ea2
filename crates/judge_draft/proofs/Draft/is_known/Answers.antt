use Rattle.judge_draft.proofs.Values.{known_is}
use borrow.Author.Rules.{rules}
use Rattle.judge_draft.proofs.Draft.is_known.Goals as goal

pub returns : goal.returns
returns c = search (known_is, rules)
