-- The contracts of this crate decide what is answered and left.
-- Assumes nothing.
use Rattle.text_scan.proofs.Decides.{only, Answers}
use Rattle.judge_contacts.proofs.breaks_23
use Rattle.judge_contacts.proofs.breaks_26
use Rattle.judge_contacts.proofs.breaks_27
use Rattle.judge_contacts.proofs.breaks_28
use Rattle.judge_contacts.proofs.breaks_29
use Rattle.judge_contacts.proofs.breaks_30

pub breaks_23_decided : Answers breaks_23.Kinds.ps breaks_23.Kinds.r breaks_23.Reads.Post
breaks_23_decided κs a x y s t = only

pub breaks_26_decided : Answers breaks_26.Kinds.ps breaks_26.Kinds.r breaks_26.Reads.Post
breaks_26_decided κs a x y s t = only

pub breaks_27_decided : Answers breaks_27.Kinds.ps breaks_27.Kinds.r breaks_27.Reads.Post
breaks_27_decided κs a x y s t = only

pub breaks_28_decided : Answers breaks_28.Kinds.ps breaks_28.Kinds.r breaks_28.Reads.Post
breaks_28_decided κs a x y s t = only

pub breaks_29_decided : Answers breaks_29.Kinds.ps breaks_29.Kinds.r breaks_29.Reads.Post
breaks_29_decided κs a x y s t = only

pub breaks_30_decided : Answers breaks_30.Kinds.ps breaks_30.Kinds.r breaks_30.Reads.Post
breaks_30_decided κs a x y s t = only
