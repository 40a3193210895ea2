-- The contracts of this crate decide what is answered and left.
-- Assumes nothing.
use Rattle.text_scan.proofs.Decides.{only, Answers}
use Rattle.text_chars.proofs.is_char
use Rattle.text_chars.proofs.first_bad

pub is_char_decided : Answers is_char.Kinds.ps is_char.Kinds.r is_char.Reads.Post
is_char_decided κs a x y s t = only

pub first_bad_decided : Answers first_bad.Kinds.ps first_bad.Kinds.r first_bad.Reads.Post
first_bad_decided κs a x y s t = only
