use Rattle.judge_draft.proofs.Values.{note_parent}
use Rattle.judge_draft.proofs.Draft.parent.Goals as goal

pub returns : goal.returns
returns c = search note_parent
