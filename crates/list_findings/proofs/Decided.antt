-- The contracts of this crate decide what is answered and left.
-- Assumes nothing.
use Rattle.text_scan.proofs.Decides.{only, Answers, Decides}
use Rattle.list_findings.proofs.class_of
use Rattle.list_findings.proofs.is_valid
use Rattle.list_findings.proofs.precedes
use Rattle.list_findings.proofs.has_record
use Rattle.list_findings.proofs.record_at
use Rattle.list_findings.proofs.put

pub class_of_decided : Answers class_of.Kinds.ps class_of.Kinds.r class_of.Reads.Post
class_of_decided κs a x y s t = only

pub is_valid_decided : Answers is_valid.Kinds.ps is_valid.Kinds.r is_valid.Reads.Post
is_valid_decided κs a x y s t = only

pub precedes_decided : Answers precedes.Kinds.ps precedes.Kinds.r precedes.Reads.Post
precedes_decided κs a x y s t = only

pub has_record_decided : Answers has_record.Kinds.ps has_record.Kinds.r has_record.Reads.Post
has_record_decided κs a x y s t = only

pub record_at_decided : Answers record_at.Kinds.ps record_at.Kinds.r record_at.Reads.Post
record_at_decided κs a x y s t = only

pub put_decided : Decides put.Kinds.ps put.Kinds.r put.Reads.Post (λ κs x s. s.0.now)
put_decided κs a x y s t = only
