-- The contract of `number` decides what is answered.
-- Assumes nothing.
use Rattle.text_scan.proofs.Decides.{only, Answers}
use Rattle.refusals.proofs.Reason.number

pub number_decided : Answers number.Kinds.ps number.Kinds.r number.Reads.Post
number_decided κs a x y s t = only
