-- The contracts of this crate decide what is answered and left.
-- Assumes nothing.
use Rattle.text_scan.proofs.Decides.{only, Answers}
use Rattle.xml_names.proofs.is_space
use Rattle.xml_names.proofs.space_end
use Rattle.xml_names.proofs.is_name_start
use Rattle.xml_names.proofs.is_name_char
use Rattle.xml_names.proofs.name_end
use Rattle.xml_names.proofs.element_end
use Rattle.xml_names.proofs.name_is
use Rattle.xml_names.proofs.is_named
use Rattle.xml_names.proofs.value_start

pub is_space_decided : Answers is_space.Kinds.ps is_space.Kinds.r is_space.Reads.Post
is_space_decided κs a x y s t = only

pub space_end_decided : Answers space_end.Kinds.ps space_end.Kinds.r space_end.Reads.Post
space_end_decided κs a x y s t = only

pub is_name_start_decided : Answers is_name_start.Kinds.ps is_name_start.Kinds.r is_name_start.Reads.Post
is_name_start_decided κs a x y s t = only

pub is_name_char_decided : Answers is_name_char.Kinds.ps is_name_char.Kinds.r is_name_char.Reads.Post
is_name_char_decided κs a x y s t = only

pub name_end_decided : Answers name_end.Kinds.ps name_end.Kinds.r name_end.Reads.Post
name_end_decided κs a x y s t = only

pub element_end_decided : Answers element_end.Kinds.ps element_end.Kinds.r element_end.Reads.Post
element_end_decided κs a x y s t = only

pub name_is_decided : Answers name_is.Kinds.ps name_is.Kinds.r name_is.Reads.Post
name_is_decided κs a x y s t = only

pub is_named_decided : Answers is_named.Kinds.ps is_named.Kinds.r is_named.Reads.Post
is_named_decided κs a x y s t = only

pub value_start_decided : Answers value_start.Kinds.ps value_start.Kinds.r value_start.Reads.Post
value_start_decided κs a x y s t = only
