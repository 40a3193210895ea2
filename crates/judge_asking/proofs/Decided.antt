-- The contracts of this crate decide what is answered and left.
-- Assumes nothing.
use Rattle.text_scan.proofs.Decides.{only, Answers, Decides}
use Rattle.judge_asking.proofs.fill

pub fill_decided : Answers fill.Kinds.ps fill.Kinds.r fill.Reads.Post
fill_decided κs a x y s t p q = only p.0 q.0

pub fill_left : Decides fill.Kinds.ps fill.Kinds.r fill.Reads.Post (λ κs x s. s.1.1.1.1.1.0.now)
fill_left κs a x y s t p q = only p.1 q.1
