-- The contract of `repeats` decides what is answered and left; the room is left open.
-- Assumes nothing.
use Rattle.text_scan.proofs.Decides.{only, Answers, Decides}
use Rattle.xml_distinct.proofs.repeats
use Rattle.xml_distinct.proofs.Leaving.{one_left}

pub repeats_decided : Answers repeats.Kinds.ps repeats.Kinds.r repeats.Reads.Post
repeats_decided κs a x y s t p q = only p.0 q.0

pub repeats_starts : Decides repeats.Kinds.ps repeats.Kinds.r repeats.Reads.Post (λ κs x s. s.1.0.now)
repeats_starts κs a x y s t p q = one_left _ _ _ _ p.1 q.1
