-- The contracts of this crate decide what is answered and left.
-- Assumes nothing.
use Rattle.text_scan.proofs.Decides.{only, Answers}
use Rattle.judge_rows.proofs.has_code
use Rattle.judge_rows.proofs.has_name

pub has_code_decided : Answers has_code.Kinds.ps has_code.Kinds.r has_code.Reads.Post
has_code_decided κs a x y s t = only

pub has_name_decided : Answers has_name.Kinds.ps has_name.Kinds.r has_name.Reads.Post
has_name_decided κs a x y s t = only
