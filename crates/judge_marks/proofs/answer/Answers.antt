use Rattle.judge_marks.proofs.Appended.{too_many, all_written}
use Rattle.judge_marks.proofs.answer.Goals as goal

pub returns-then-list-total : goal.returns-then-list-total
returns-then-list-total c = search too_many

pub returns : goal.returns
returns c = search all_written
