-- The contracts of this crate decide what is answered and left.
-- Assumes nothing.
use Rattle.text_scan.proofs.Decides.{only, Answers, Decides}
use Rattle.judge_noted.proofs.judge

pub judge_decided : Answers judge.Kinds.ps judge.Kinds.r judge.Reads.Post
judge_decided κs a x y s t p q = only p.answers q.answers

pub judge_list : Decides judge.Kinds.ps judge.Kinds.r judge.Reads.Post (λ κs x s. s.1.1.1.1.0.now)
judge_list κs a x y s t p q = only p.lists q.lists
