use Rattle.judge_draft.proofs.Values.{note_first}
use Rattle.judge_draft.proofs.Draft.first_byte.Goals as goal

pub returns : goal.returns
returns c = search note_first
