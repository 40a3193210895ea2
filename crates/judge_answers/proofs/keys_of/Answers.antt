use Rattle.judge_answers.proofs.Runs.{other_set, own_keys, other_type}
use Rattle.judge_answers.proofs.keys_of.Goals as goal

pub returns-then-type_number : goal.returns-then-type_number
returns-then-type_number c = search own_keys

pub returns-then-places-s : goal.returns-then-places-s
returns-then-places-s c = search other_type

pub returns : goal.returns
returns c = search other_set
