-- The contracts of this crate decide what is answered and left.
-- Assumes nothing.
use Rattle.text_scan.proofs.Decides.{only, Answers}
use Rattle.xml_reader.proofs.Reader.new

pub new_decided : Answers new.Kinds.ps new.Kinds.r new.Reads.Post
new_decided κs a x y s t p q = λ i. record { at = only p.0 q.0 i; count = only p.1 q.1 i; depth = only p.2 q.2 i; top = only p.3 q.3 i }
