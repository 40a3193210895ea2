use Rattle.judge_history.proofs.Asked.{told_here}
use Rattle.judge_history.proofs.is_other_key.Goals as goal

pub has_other_key-requires : goal.has_other_key-requires
has_other_key-requires c = search told_here
