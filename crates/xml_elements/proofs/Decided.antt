-- The contracts of this crate decide what is answered and left.
-- Assumes nothing.
use Rattle.text_scan.proofs.Decides.{only, Answers, Decides}
use Rattle.xml_elements.proofs.read

pub read_decided : Answers read.Kinds.ps read.Kinds.r read.Reads.Post
read_decided κs a x y s t p q = only p.answers q.answers

pub read_elements : Decides read.Kinds.ps read.Kinds.r read.Reads.Post (λ κs x s. s.1.0.now)
read_elements κs a x y s t p q = only p.leaves q.leaves
