-- The contracts of this crate decide what is answered and left.
-- Assumes nothing.
use Rattle.text_scan.proofs.Decides.{only, Answers}
use Rattle.xml_pieces.proofs.piece

pub piece_decided : Answers piece.Kinds.ps piece.Kinds.r piece.Reads.Post
piece_decided κs a x y s t = only
