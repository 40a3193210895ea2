-- The contracts of this crate decide what is answered and left.
-- Assumes nothing.
use Rattle.text_scan.proofs.Decides.{only, Answers, Decides}
use Rattle.judge_type.proofs.type_in

pub type_in_decided : Answers type_in.Kinds.ps type_in.Kinds.r type_in.Reads.Post
type_in_decided κs a x y s t p q = only p.0 q.0

pub type_in_left : Decides type_in.Kinds.ps type_in.Kinds.r type_in.Reads.Post (λ κs x s. s.1.1.0.now)
type_in_left κs a x y s t p q = only p.1 q.1
