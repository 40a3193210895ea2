-- The contracts of this crate decide what is answered and left.
-- Assumes nothing.
use Rattle.text_scan.proofs.Decides.{only, Answers, Decides}
use Rattle.table_lines.proofs.line_end
use Rattle.table_lines.proofs.plain_end
use Rattle.table_lines.proofs.line_at
use Rattle.table_lines.proofs.field_start
use Rattle.table_lines.proofs.field

pub line_end_decided : Answers line_end.Kinds.ps line_end.Kinds.r line_end.Reads.Post
line_end_decided κs a x y s t = only

pub plain_end_decided : Answers plain_end.Kinds.ps plain_end.Kinds.r plain_end.Reads.Post
plain_end_decided κs a x y s t = only

pub line_at_decided : Answers line_at.Kinds.ps line_at.Kinds.r line_at.Reads.Post
line_at_decided κs a x y s t p q = λ i. record { end = only p.0 q.0 i; fields = only p.1 q.1 i }

pub field_start_decided : Answers field_start.Kinds.ps field_start.Kinds.r field_start.Reads.Post
field_start_decided κs a x y s t = only

pub field_decided : Decides field.Kinds.ps field.Kinds.r field.Reads.Post (λ κs x s. x.now)
field_decided κs a x y s t = only
