-- The contracts of this crate decide what is answered and left.
-- Assumes nothing.
use Rattle.text_scan.proofs.Decides.{only, Answers, Decides}
use Rattle.xml_value_reader.proofs.fill
use Rattle.xml_value_reader.proofs.value

pub fill_decided : Answers fill.Kinds.ps fill.Kinds.r fill.Reads.Post
fill_decided κs a x y s t p q = only p.answers q.answers

pub fill_scratch : Decides fill.Kinds.ps fill.Kinds.r fill.Reads.Post (λ κs x s. s.1.0.now)
fill_scratch κs a x y s t p q = only p.leaves q.leaves

pub value_bytes : Decides value.Kinds.ps value.Kinds.r value.Reads.Post (λ κs x s. x.now)
value_bytes κs a x y s t p q = only p.says q.says

pub value_place_lem : Decides value.Kinds.ps value.Kinds.r value.Reads.Post (λ κs x s. x.ref_ptr)
value_place_lem κs a x y s t p q = only p.stands q.stands
