-- The contracts of this crate decide what is answered and left.
-- Assumes nothing.
use Rattle.text_scan.proofs.Decides.{only, Answers, Decides}
use Rattle.judge_marks.proofs.push
use Rattle.judge_marks.proofs.how_many
use Rattle.judge_marks.proofs.answer

pub push_decided : Answers push.Kinds.ps push.Kinds.r push.Reads.Post
push_decided κs a x y s t = only

pub how_many_decided : Answers how_many.Kinds.ps how_many.Kinds.r how_many.Reads.Post
how_many_decided κs a x y s t = only

pub answer_decided : Answers answer.Kinds.ps answer.Kinds.r answer.Reads.Post
answer_decided κs a x y s t p q = only p.answers q.answers

pub answer_list : Decides answer.Kinds.ps answer.Kinds.r answer.Reads.Post (λ κs x s. s.1.1.1.0.now)
answer_list κs a x y s t p q = only p.lists q.lists
