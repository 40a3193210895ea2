-- The contracts of this crate decide what is answered and left.
-- Assumes nothing.
use Rattle.text_scan.proofs.Decides.{only, Answers}
use Rattle.xml_markup.proofs.comment_end
use Rattle.xml_markup.proofs.text_any_case_at
use Rattle.xml_markup.proofs.instruction_end

pub comment_end_decided : Answers comment_end.Kinds.ps comment_end.Kinds.r comment_end.Reads.Post
comment_end_decided κs a x y s t = only

pub text_any_case_at_decided : Answers text_any_case_at.Kinds.ps text_any_case_at.Kinds.r text_any_case_at.Reads.Post
text_any_case_at_decided κs a x y s t = only

pub instruction_end_decided : Answers instruction_end.Kinds.ps instruction_end.Kinds.r instruction_end.Reads.Post
instruction_end_decided κs a x y s t = only
