-- The contracts of this crate decide what is answered and left.
-- Assumes nothing.
use Rattle.text_scan.proofs.Decides.{only, Answers}
use Rattle.judge_listed.proofs.breaks_1
use Rattle.judge_listed.proofs.breaks_2
use Rattle.judge_listed.proofs.breaks_3
use Rattle.judge_listed.proofs.breaks_4

pub breaks_1_decided : Answers breaks_1.Kinds.ps breaks_1.Kinds.r breaks_1.Reads.Post
breaks_1_decided κs a x y s t = only

pub breaks_2_decided : Answers breaks_2.Kinds.ps breaks_2.Kinds.r breaks_2.Reads.Post
breaks_2_decided κs a x y s t = only

pub breaks_3_decided : Answers breaks_3.Kinds.ps breaks_3.Kinds.r breaks_3.Reads.Post
breaks_3_decided κs a x y s t = only

pub breaks_4_decided : Answers breaks_4.Kinds.ps breaks_4.Kinds.r breaks_4.Reads.Post
breaks_4_decided κs a x y s t = only
