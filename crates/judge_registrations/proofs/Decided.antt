-- The contracts of this crate decide what is answered and left.
-- Assumes nothing.
use Rattle.text_scan.proofs.Decides.{only, Answers}
use Rattle.judge_registrations.proofs.breaks_31
use Rattle.judge_registrations.proofs.breaks_32
use Rattle.judge_registrations.proofs.breaks_35
use Rattle.judge_registrations.proofs.breaks_36

pub breaks_31_decided : Answers breaks_31.Kinds.ps breaks_31.Kinds.r breaks_31.Reads.Post
breaks_31_decided κs a x y s t = only

pub breaks_32_decided : Answers breaks_32.Kinds.ps breaks_32.Kinds.r breaks_32.Reads.Post
breaks_32_decided κs a x y s t = only

pub breaks_35_decided : Answers breaks_35.Kinds.ps breaks_35.Kinds.r breaks_35.Reads.Post
breaks_35_decided κs a x y s t = only

pub breaks_36_decided : Answers breaks_36.Kinds.ps breaks_36.Kinds.r breaks_36.Reads.Post
breaks_36_decided κs a x y s t = only
