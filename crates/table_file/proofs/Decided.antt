-- The contracts of this crate decide what is answered and left.
-- Assumes nothing.
use Rattle.text_scan.proofs.Decides.{only, Answers}
use Rattle.table_file.proofs.accept

pub accept_decided : Answers accept.Kinds.ps accept.Kinds.r accept.Reads.Post
accept_decided κs a x y s t = only
