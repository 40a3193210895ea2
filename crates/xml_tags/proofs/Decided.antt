-- The contracts of this crate decide what is answered and left.
-- Assumes nothing.
use Rattle.text_scan.proofs.Decides.{only, Answers}
use Rattle.xml_tags.proofs.end_tag_end
use Rattle.xml_tags.proofs.tag_at
use Rattle.xml_tags.proofs.opening_at

pub end_tag_end_decided : Answers end_tag_end.Kinds.ps end_tag_end.Kinds.r end_tag_end.Reads.Post
end_tag_end_decided κs a x y s t = only

pub tag_at_decided : Answers tag_at.Kinds.ps tag_at.Kinds.r tag_at.Reads.Post
tag_at_decided κs a x y s t = only

pub opening_at_decided : Answers opening_at.Kinds.ps opening_at.Kinds.r opening_at.Reads.Post
opening_at_decided κs a x y s t = only
