-- The contracts of this crate decide what is answered and left.
-- Assumes nothing.
use Rattle.text_scan.proofs.Decides.{only, Answers, Decides}
use Rattle.list_merge.proofs.merge

pub merge_decided : Answers merge.Kinds.ps merge.Kinds.r merge.Reads.Post
merge_decided κs a x y s t p q = only p.answers q.answers

pub merge_out : Decides merge.Kinds.ps merge.Kinds.r merge.Reads.Post (λ κs x s. s.1.1.0.now)
merge_out κs a x y s t p q = only p.leaves q.leaves
