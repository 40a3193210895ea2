-- The contracts of this crate decide what is answered and left.
-- Assumes nothing.
use Rattle.text_scan.proofs.Decides.{only, Answers, Decides}
use Rattle.judge_input.proofs.admit
use Rattle.judge_input.proofs.clear

pub admit_decided : Answers admit.Kinds.ps admit.Kinds.r admit.Reads.Post
admit_decided κs a x y s t = only

pub clear_decided : Decides clear.Kinds.ps clear.Kinds.r clear.Reads.Post (λ κs x s. s.0.now)
clear_decided κs a x y s t = only
