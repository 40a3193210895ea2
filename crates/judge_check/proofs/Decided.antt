-- The contracts of this crate decide what is answered and left.
-- Assumes nothing.
use Rattle.text_scan.proofs.Decides.{only, Answers, Decides}
use Rattle.judge_check.proofs.check

pub check_decided : Answers check.Kinds.ps check.Kinds.r check.Reads.Post
check_decided κs a x y s t p q = only p.answers q.answers

pub check_scratch : Decides check.Kinds.ps check.Kinds.r check.Reads.Post (λ κs x s. s.1.1.0.now)
check_scratch κs a x y s t p q = only p.scratches q.scratches

pub check_elements : Decides check.Kinds.ps check.Kinds.r check.Reads.Post (λ κs x s. s.1.1.1.0.now)
check_elements κs a x y s t p q = only p.tables q.tables

pub check_list : Decides check.Kinds.ps check.Kinds.r check.Reads.Post (λ κs x s. s.1.1.1.1.0.now)
check_list κs a x y s t p q = only p.lists q.lists
