-- The contracts of `print` and `run` decide what is answered and left, and that of `put_answer`, through which both go.
-- Assumes nothing.
use Rattle.text_scan.proofs.Decides.{only, Answers, Decides}
use Rattle.text_scan.proofs.Within.{inside}
use Rattle.program_texts.proofs.Decided.{one_room}
use Rattle.program_answer.proofs.put_answer
use Rattle.program_answer.proofs.print
use Rattle.program_answer.proofs.run

pub put_answer_decided : Answers put_answer.Kinds.ps put_answer.Kinds.r put_answer.Reads.Post
put_answer_decided κs a x y s t p q = only p.ends q.ends

pub put_answer_out : Decides put_answer.Kinds.ps put_answer.Kinds.r put_answer.Reads.Post (λ κs x s. s.1.1.0.now)
put_answer_out κs a x y s t p q = one_room _ _ _ x y _ _ p q

pub print_decided : Answers print.Kinds.ps print.Kinds.r print.Reads.Post
print_decided κs a x y s t p q = inside _ _ (λ h. only (p.1 h).0 (q.1 h).0) (λ h. only (p.0 h).ends (q.0 h).ends)

pub print_out : Decides print.Kinds.ps print.Kinds.r print.Reads.Post (λ κs x s. s.1.1.0.now)
print_out κs a x y s t p q = inside _ _ (λ h. only (p.1 h).1 (q.1 h).1) (λ h. one_room _ _ _ x y _ _ (p.0 h) (q.0 h))

pub run_decided : Answers run.Kinds.ps run.Kinds.r run.Reads.Post
run_decided κs a x y s t p q = only p.prints.ends q.prints.ends

pub run_elements : Decides run.Kinds.ps run.Kinds.r run.Reads.Post (λ κs x s. s.1.1.0.now)
run_elements κs a x y s t p q = only p.tables q.tables

pub run_list : Decides run.Kinds.ps run.Kinds.r run.Reads.Post (λ κs x s. s.1.1.1.0.now)
run_list κs a x y s t p q = only p.lists q.lists

pub run_out : Decides run.Kinds.ps run.Kinds.r run.Reads.Post (λ κs x s. s.1.1.1.1.0.now)
run_out κs a x y s t p q = one_room _ _ _ x y _ _ p.prints q.prints
