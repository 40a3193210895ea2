-- The contracts of this crate decide what is answered and left.
-- Assumes nothing.
use Rattle.text_scan.proofs.Decides.{only, Answers}
use Rattle.text_facts.proofs.same
use Rattle.text_facts.proofs.same_in_any_case
use Rattle.text_facts.proofs.begins_with
use Rattle.text_facts.proofs.without_space
use Rattle.text_facts.proofs.is_guid
use Rattle.text_facts.proofs.is_labeler_code

pub same_decided : Answers same.Kinds.ps same.Kinds.r same.Reads.Post
same_decided κs a x y s t = only

pub same_in_any_case_decided : Answers same_in_any_case.Kinds.ps same_in_any_case.Kinds.r same_in_any_case.Reads.Post
same_in_any_case_decided κs a x y s t = only

pub begins_with_decided : Answers begins_with.Kinds.ps begins_with.Kinds.r begins_with.Reads.Post
begins_with_decided κs a x y s t = only

pub without_space_decided : Answers without_space.Kinds.ps without_space.Kinds.r without_space.Reads.Post
without_space_decided κs a x y s t = only

pub is_guid_decided : Answers is_guid.Kinds.ps is_guid.Kinds.r is_guid.Reads.Post
is_guid_decided κs a x y s t = only

pub is_labeler_code_decided : Answers is_labeler_code.Kinds.ps is_labeler_code.Kinds.r is_labeler_code.Reads.Post
is_labeler_code_decided κs a x y s t = only
