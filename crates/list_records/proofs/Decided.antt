-- The contracts of this crate decide what is answered and left.
-- Assumes nothing.
use Rattle.text_scan.proofs.Decides.{only, Answers, Decides}
use Rattle.list_records.proofs.keep
use Rattle.list_records.proofs.merge_parts

pub keep_decided : Answers keep.Kinds.ps keep.Kinds.r keep.Reads.Post
keep_decided κs a x y s t p q = only p.0 q.0

pub keep_left : Decides keep.Kinds.ps keep.Kinds.r keep.Reads.Post (λ κs x s. s.1.1.0.now)
keep_left κs a x y s t p q = only p.1 q.1

pub merge_parts_decided : Answers merge_parts.Kinds.ps merge_parts.Kinds.r merge_parts.Reads.Post
merge_parts_decided κs a x y s t p q = only p.answers q.answers

pub merge_parts_out : Decides merge_parts.Kinds.ps merge_parts.Kinds.r merge_parts.Reads.Post (λ κs x s. s.1.1.1.0.now)
merge_parts_out κs a x y s t p q = only p.leaves q.leaves
