use Rattle.judge_draft.proofs.Values.{attribute_missing}
use Rattle.judge_draft.proofs.Draft.attribute_is_empty.Goals as goal

pub returns : goal.returns
returns c = search attribute_missing
