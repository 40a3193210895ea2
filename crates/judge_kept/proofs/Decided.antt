-- The contracts of this crate decide what is answered and left.
-- Assumes nothing.
use Rattle.text_scan.proofs.Decides.{only, Answers, Decides}
use Rattle.judge_kept.proofs.row_number
use Rattle.judge_kept.proofs.text_held
use Rattle.judge_kept.proofs.has_no_other
use Rattle.judge_kept.proofs.attribute_held
use Rattle.judge_kept.proofs.keep

pub row_number_decided : Answers row_number.Kinds.ps row_number.Kinds.r row_number.Reads.Post
row_number_decided κs a x y s t p q = only p.0 q.0

pub text_held_decided : Answers text_held.Kinds.ps text_held.Kinds.r text_held.Reads.Post
text_held_decided κs a x y s t = only

pub has_no_other_decided : Answers has_no_other.Kinds.ps has_no_other.Kinds.r has_no_other.Reads.Post
has_no_other_decided κs a x y s t = only

pub attribute_held_decided : Answers attribute_held.Kinds.ps attribute_held.Kinds.r attribute_held.Reads.Post
attribute_held_decided κs a x y s t = only

pub keep_decided : Decides keep.Kinds.ps keep.Kinds.r keep.Reads.Post (λ κs x s. s.1.1.1.0.now)
keep_decided κs a x y s t = only
