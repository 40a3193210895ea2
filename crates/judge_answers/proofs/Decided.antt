-- The contracts of this crate decide what is answered and left.
-- Assumes nothing.
use Rattle.text_scan.proofs.Decides.{only, Answers}
use Rattle.judge_answers.proofs.is_broken

pub is_broken_decided : Answers is_broken.Kinds.ps is_broken.Kinds.r is_broken.Reads.Post
is_broken_decided κs a x y s t = only
