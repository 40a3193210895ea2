use Rattle.judge_answers.proofs.Asked.{other_asked}
use Rattle.judge_answers.proofs.Runs.{told_of_set}
use Rattle.judge_answers.proofs.has_other_key.Goals as goal

pub has_other_key-requires : goal.has_other_key-requires
has_other_key-requires c = search told_of_set

pub returns : goal.returns
returns c = search other_asked
