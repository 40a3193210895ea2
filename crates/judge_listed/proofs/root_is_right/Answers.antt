use Rattle.judge_listed.proofs.Laws.{right_name, wrong_name}
use Rattle.judge_listed.proofs.root_is_right.Goals as goal

pub returns-then-is_document : goal.returns-then-is_document
returns-then-is_document c = search right_name

pub returns : goal.returns
returns c = search wrong_name
