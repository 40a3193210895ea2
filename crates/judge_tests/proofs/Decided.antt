-- The contracts of this crate decide what is answered and left.
-- Assumes nothing.
use Rattle.text_scan.proofs.Decides.{only, Answers}
use Rattle.judge_tests.proofs.is_passed

pub is_passed_decided : Answers is_passed.Kinds.ps is_passed.Kinds.r is_passed.Reads.Post
is_passed_decided κs a x y s t = only
