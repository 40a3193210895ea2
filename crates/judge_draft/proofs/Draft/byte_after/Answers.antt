use Rattle.judge_draft.proofs.Values.{note_after}
use Rattle.judge_draft.proofs.Draft.byte_after.Goals as goal

pub returns : goal.returns
returns c = search note_after
