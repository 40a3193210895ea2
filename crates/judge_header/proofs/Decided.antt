-- The contracts of this crate decide what is answered and left.
-- Assumes nothing.
use Rattle.text_scan.proofs.Decides.{only, Answers}
use Rattle.judge_header.proofs.is_one
use Rattle.judge_header.proofs.the
use Rattle.judge_header.proofs.header_of
use Rattle.judge_header.proofs.has_property
use Rattle.judge_header.proofs.id_holds
use Rattle.judge_header.proofs.has_type
use Rattle.judge_header.proofs.set_holds
use Rattle.judge_header.proofs.version_holds
use Rattle.judge_header.proofs.type_of

pub is_one_decided : Answers is_one.Kinds.ps is_one.Kinds.r is_one.Reads.Post
is_one_decided κs a x y s t = only

pub the_decided : Answers the.Kinds.ps the.Kinds.r the.Reads.Post
the_decided κs a x y s t = only

pub header_of_decided : Answers header_of.Kinds.ps header_of.Kinds.r header_of.Reads.Post
header_of_decided κs a x y s t = only

pub has_property_decided : Answers has_property.Kinds.ps has_property.Kinds.r has_property.Reads.Post
has_property_decided κs a x y s t = only

pub id_holds_decided : Answers id_holds.Kinds.ps id_holds.Kinds.r id_holds.Reads.Post
id_holds_decided κs a x y s t = only

pub has_type_decided : Answers has_type.Kinds.ps has_type.Kinds.r has_type.Reads.Post
has_type_decided κs a x y s t = only

pub set_holds_decided : Answers set_holds.Kinds.ps set_holds.Kinds.r set_holds.Reads.Post
set_holds_decided κs a x y s t = only

pub version_holds_decided : Answers version_holds.Kinds.ps version_holds.Kinds.r version_holds.Reads.Post
version_holds_decided κs a x y s t = only

pub type_of_decided : Answers type_of.Kinds.ps type_of.Kinds.r type_of.Reads.Post
type_of_decided κs a x y s t = only
