-- The contracts of this crate decide what is answered and left.
-- Assumes nothing.
use Rattle.text_scan.proofs.Decides.{only, Answers}
use Rattle.xml_declaration.proofs.is_declaration
use Rattle.xml_declaration.proofs.declaration_end

pub is_declaration_decided : Answers is_declaration.Kinds.ps is_declaration.Kinds.r is_declaration.Reads.Post
is_declaration_decided κs a x y s t = only

pub declaration_end_decided : Answers declaration_end.Kinds.ps declaration_end.Kinds.r declaration_end.Reads.Post
declaration_end_decided κs a x y s t = only
