-- The contracts of this crate decide what is answered and left.
-- Assumes nothing.
use Rattle.text_scan.proofs.Decides.{only, Answers, Decides}
use Rattle.xml_references.proofs.reference_at
use Rattle.xml_references.proofs.value_end
use Rattle.xml_references.proofs.text_end
use Rattle.xml_references.proofs.decode_at
use Rattle.xml_references.proofs.decode

pub reference_at_decided : Answers reference_at.Kinds.ps reference_at.Kinds.r reference_at.Reads.Post
reference_at_decided κs a x y s t = only

pub value_end_decided : Answers value_end.Kinds.ps value_end.Kinds.r value_end.Reads.Post
value_end_decided κs a x y s t = only

pub text_end_decided : Answers text_end.Kinds.ps text_end.Kinds.r text_end.Reads.Post
text_end_decided κs a x y s t = only

pub decode_at_decided : Answers decode_at.Kinds.ps decode_at.Kinds.r decode_at.Reads.Post
decode_at_decided κs a x y s t p q = only p.0 q.0

pub decode_at_left : Decides decode_at.Kinds.ps decode_at.Kinds.r decode_at.Reads.Post (λ κs x s. s.1.0.now)
decode_at_left κs a x y s t p q = only p.1 q.1

pub decode_decided : Answers decode.Kinds.ps decode.Kinds.r decode.Reads.Post
decode_decided κs a x y s t p q = only p.0 q.0

pub decode_left : Decides decode.Kinds.ps decode.Kinds.r decode.Reads.Post (λ κs x s. s.1.1.1.0.now)
decode_left κs a x y s t p q = only p.1 q.1
