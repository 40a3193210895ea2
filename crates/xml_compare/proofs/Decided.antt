-- The contracts of this crate decide what is answered and left.
-- Assumes nothing.
use Rattle.text_scan.proofs.Decides.{only, Answers}
use Rattle.xml_compare.proofs.is_value
use Rattle.xml_compare.proofs.attribute_is

pub is_value_decided : Answers is_value.Kinds.ps is_value.Kinds.r is_value.Reads.Post
is_value_decided κs a x y s t = only

pub attribute_is_decided : Answers attribute_is.Kinds.ps attribute_is.Kinds.r attribute_is.Reads.Post
attribute_is_decided κs a x y s t = only
