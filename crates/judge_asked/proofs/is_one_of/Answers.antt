use Rattle.judge_asked.proofs.Plain.{first_of, second_of, third_of, fourth_of, fifth_of}
use Rattle.judge_asked.proofs.is_one_of.Goals as goal

pub returns-then-number-a : goal.returns-then-number-a
returns-then-number-a c = search first_of

pub returns-then-number-b : goal.returns-then-number-b
returns-then-number-b c = search second_of

pub returns-then-number-c : goal.returns-then-number-c
returns-then-number-c c = search third_of

pub returns-then-number-d : goal.returns-then-number-d
returns-then-number-d c = search fourth_of

pub returns : goal.returns
returns c = search fifth_of
