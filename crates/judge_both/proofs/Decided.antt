-- The contracts of this crate decide what is answered and left.
-- Assumes nothing.
use Rattle.text_scan.proofs.Decides.{only, Answers, Decides}
use Rattle.judge_both.proofs.check_both

pub check_both_decided : Answers check_both.Kinds.ps check_both.Kinds.r check_both.Reads.Post
check_both_decided κs a x y s t p q = only p.answers q.answers

pub check_both_scratch : Decides check_both.Kinds.ps check_both.Kinds.r check_both.Reads.Post (λ κs x s. s.1.1.1.0.now)
check_both_scratch κs a x y s t p q = only p.scratches q.scratches

pub check_both_elements : Decides check_both.Kinds.ps check_both.Kinds.r check_both.Reads.Post (λ κs x s. s.1.1.1.1.0.now)
check_both_elements κs a x y s t p q = only p.tables q.tables

pub check_both_list : Decides check_both.Kinds.ps check_both.Kinds.r check_both.Reads.Post (λ κs x s. s.1.1.1.1.1.0.now)
check_both_list κs a x y s t p q = only p.lists q.lists

pub check_both_records : Decides check_both.Kinds.ps check_both.Kinds.r check_both.Reads.Post (λ κs x s. s.1.1.1.1.1.1.0.now)
check_both_records κs a x y s t p q = only p.kept q.kept

pub check_both_out : Decides check_both.Kinds.ps check_both.Kinds.r check_both.Reads.Post (λ κs x s. s.1.1.1.1.1.1.1.0.now)
check_both_out κs a x y s t p q = only p.outs q.outs
