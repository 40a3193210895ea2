-- The contracts of this crate decide what is answered and left.
-- Assumes nothing.
use Rattle.text_scan.proofs.Decides.{only, Answers, Decides}
use Rattle.text_encode.proofs.up_to
use Rattle.text_encode.proofs.put
use Rattle.text_encode.proofs.encode

pub up_to_decided : Answers up_to.Kinds.ps up_to.Kinds.r up_to.Reads.Post
up_to_decided κs a x y s t = only

pub put_left : Decides put.Kinds.ps put.Kinds.r put.Reads.Post (λ κs x s. s.1.0.now)
put_left κs a x y s t = only

pub encode_decided : Answers encode.Kinds.ps encode.Kinds.r encode.Reads.Post
encode_decided κs a x y s t p q = only p.0 q.0

pub encode_left : Decides encode.Kinds.ps encode.Kinds.r encode.Reads.Post (λ κs x s. s.1.0.now)
encode_left κs a x y s t p q = only p.1 q.1
