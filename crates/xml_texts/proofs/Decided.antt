-- The contracts of this crate decide what is answered and left.
-- Assumes nothing.
use Rattle.text_scan.proofs.Decides.{only, Answers, Decides}
use Rattle.xml_texts.proofs.text_place
use Rattle.xml_texts.proofs.plain_text
use Rattle.xml_texts.proofs.text_value
use Rattle.xml_texts.proofs.text

pub text_place_decided : Answers text_place.Kinds.ps text_place.Kinds.r text_place.Reads.Post
text_place_decided κs a x y s t = only

pub plain_text_decided : Answers plain_text.Kinds.ps plain_text.Kinds.r plain_text.Reads.Post
plain_text_decided κs a x y s t = only

pub text_value_decided : Answers text_value.Kinds.ps text_value.Kinds.r text_value.Reads.Post
text_value_decided κs a x y s t p q = only p.answers q.answers

pub text_value_out : Decides text_value.Kinds.ps text_value.Kinds.r text_value.Reads.Post (λ κs x s. s.1.1.0.now)
text_value_out κs a x y s t p q = only p.leaves q.leaves

pub text_bytes : Decides text.Kinds.ps text.Kinds.r text.Reads.Post (λ κs x s. x.now)
text_bytes κs a x y s t p q = only p.says q.says

pub text_place_lem : Decides text.Kinds.ps text.Kinds.r text.Reads.Post (λ κs x s. x.ref_ptr)
text_place_lem κs a x y s t p q = only p.stands q.stands
