-- The contracts of this crate decide what is answered and left.
-- Assumes nothing.
use Rattle.text_scan.proofs.Decides.{only, Answers}
use Rattle.text_numbers.proofs.version
use Rattle.text_numbers.proofs.is_day

pub version_decided : Answers version.Kinds.ps version.Kinds.r version.Reads.Post
version_decided κs a x y s t = only

pub is_day_decided : Answers is_day.Kinds.ps is_day.Kinds.r is_day.Reads.Post
is_day_decided κs a x y s t = only
