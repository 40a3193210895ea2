-- The contracts of this crate decide what is answered and left.
-- Assumes nothing.
use Rattle.text_scan.proofs.Decides.{only, Answers}
use Rattle.list_steps.proofs.alone
use Rattle.list_steps.proofs.pair

pub alone_decided : Answers alone.Kinds.ps alone.Kinds.r alone.Reads.Post
alone_decided κs a x y s t = only

pub pair_decided : Answers pair.Kinds.ps pair.Kinds.r pair.Reads.Post
pair_decided κs a x y s t = only
