-- The contracts of this crate decide what is answered and left.
-- Assumes nothing.
use Rattle.text_scan.proofs.Decides.{only, Answers, Decides}
use Rattle.list_writer.proofs.append_at

pub append_at_decided : Answers append_at.Kinds.ps append_at.Kinds.r append_at.Reads.Post
append_at_decided κs a x y s t p q = only p.0 q.0

pub append_at_left : Decides append_at.Kinds.ps append_at.Kinds.r append_at.Reads.Post (λ κs x s. s.0.now)
append_at_left κs a x y s t p q = only p.1 q.1
