-- The contracts of this crate decide what is answered and left.
-- Assumes nothing.
use Rattle.text_scan.proofs.Decides.{only, Answers, Decides}
use Rattle.program_exports.proofs.bd_version
use Rattle.program_exports.proofs.bd_check
use Rattle.program_exports.proofs.bd_merge
use Rattle.program_exports.proofs.bd_value

pub bd_version_decided : Answers bd_version.Kinds.ps bd_version.Kinds.r bd_version.Reads.Post
bd_version_decided κs a x y s t = only

pub bd_check_decided : Answers bd_check.Kinds.ps bd_check.Kinds.r bd_check.Reads.Post
bd_check_decided κs a x y s t p q = only p.answers q.answers

pub bd_check_scratch : Decides bd_check.Kinds.ps bd_check.Kinds.r bd_check.Reads.Post (λ κs x s. s.1.1.0.now)
bd_check_scratch κs a x y s t p q = only p.scratches q.scratches

pub bd_check_elements : Decides bd_check.Kinds.ps bd_check.Kinds.r bd_check.Reads.Post (λ κs x s. s.1.1.1.0.now)
bd_check_elements κs a x y s t p q = only p.tables q.tables

pub bd_check_list : Decides bd_check.Kinds.ps bd_check.Kinds.r bd_check.Reads.Post (λ κs x s. s.1.1.1.1.0.now)
bd_check_list κs a x y s t p q = only p.lists q.lists

pub bd_merge_decided : Answers bd_merge.Kinds.ps bd_merge.Kinds.r bd_merge.Reads.Post
bd_merge_decided κs a x y s t p q = only p.answers q.answers

pub bd_merge_out : Decides bd_merge.Kinds.ps bd_merge.Kinds.r bd_merge.Reads.Post (λ κs x s. s.1.1.0.now)
bd_merge_out κs a x y s t p q = only p.lists q.lists

pub bd_value_decided : Answers bd_value.Kinds.ps bd_value.Kinds.r bd_value.Reads.Post
bd_value_decided κs a x y s t p q = only p.answers q.answers

pub bd_value_scratch : Decides bd_value.Kinds.ps bd_value.Kinds.r bd_value.Reads.Post (λ κs x s. s.1.0.now)
bd_value_scratch κs a x y s t p q = only p.scratches q.scratches
