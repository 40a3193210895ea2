use Rattle.judge_draft.proofs.Values.{note_role}
use borrow.Author.Rules.{rules}
use Rattle.judge_draft.proofs.Draft.role_at.Goals as goal

pub returns : goal.returns
returns c = search (note_role, rules)
