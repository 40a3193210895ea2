-- The contracts of this crate decide what is answered and left.
-- Assumes nothing.
use Rattle.text_scan.proofs.Decides.{only, Answers}
use Rattle.text_telephones.proofs.is_telephone

pub is_telephone_decided : Answers is_telephone.Kinds.ps is_telephone.Kinds.r is_telephone.Reads.Post
is_telephone_decided κs a x y s t = only
