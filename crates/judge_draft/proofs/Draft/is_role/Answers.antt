use Rattle.judge_draft.proofs.Values.{role_is}
use borrow.Author.Rules.{rules}
use Rattle.judge_draft.proofs.Draft.is_role.Goals as goal

pub returns : goal.returns
returns c = search (role_is, rules)
