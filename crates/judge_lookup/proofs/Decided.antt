-- The contracts of this crate decide what is answered and left.
-- Assumes nothing.
use Rattle.text_scan.proofs.Decides.{only, Answers}
use Rattle.judge_lookup.proofs.how_many_ask
use Rattle.judge_lookup.proofs.is_large

pub how_many_ask_decided : Answers how_many_ask.Kinds.ps how_many_ask.Kinds.r how_many_ask.Reads.Post
how_many_ask_decided κs a x y s t = only

pub is_large_decided : Answers is_large.Kinds.ps is_large.Kinds.r is_large.Reads.Post
is_large_decided κs a x y s t = only
