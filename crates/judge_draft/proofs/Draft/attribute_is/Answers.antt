use Rattle.judge_draft.proofs.Values.{attribute_equal}
use Rattle.judge_draft.proofs.Draft.attribute_is.Goals as goal

pub returns : goal.returns
returns c = search attribute_equal
