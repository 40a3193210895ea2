use Rattle.judge_asked.proofs.Plain.{plain_upper, plain_middle, plain_lower}
use Rattle.judge_asked.proofs.is_plain.Goals as goal

pub returns-then-is_one_of : goal.returns-then-is_one_of
returns-then-is_one_of c = search plain_upper

pub returns-then-is_one_of-2 : goal.returns-then-is_one_of-2
returns-then-is_one_of-2 c = search plain_middle

pub returns : goal.returns
returns c = search plain_lower
