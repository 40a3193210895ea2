-- The contracts of this crate decide what is answered and left.
-- Assumes nothing.
use Rattle.text_scan.proofs.Decides.{only, Answers}
use Rattle.xml_repeats.proofs.repeats

pub repeats_decided : Answers repeats.Kinds.ps repeats.Kinds.r repeats.Reads.Post
repeats_decided κs a x y s t = only
