-- The contracts of this crate decide what is answered and left.
-- Assumes nothing.
use Rattle.text_scan.proofs.Decides.{only, Answers}
use Rattle.judge_asked.proofs.asked_row
use Rattle.judge_asked.proofs.asked
use Rattle.judge_asked.proofs.is_plain

pub asked_row_decided : Answers asked_row.Kinds.ps asked_row.Kinds.r asked_row.Reads.Post
asked_row_decided κs a x y s t = only

pub asked_decided : Answers asked.Kinds.ps asked.Kinds.r asked.Reads.Post
asked_decided κs a x y s t = only

pub is_plain_decided : Answers is_plain.Kinds.ps is_plain.Kinds.r is_plain.Reads.Post
is_plain_decided κs a x y s t = only
