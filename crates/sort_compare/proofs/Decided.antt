-- The contracts of this crate decide what is answered and left.
-- Assumes nothing.
use Rattle.text_scan.proofs.Decides.{only, Answers, Decides}
use Rattle.sort_compare.proofs.compare
use Rattle.sort_compare.proofs.fields.rest
use Rattle.sort_compare.proofs.fields.compare_value
use Rattle.sort_compare.proofs.fields.next_field
use Rattle.sort_compare.proofs.fields.skip
use Rattle.sort_compare.proofs.fields.compare_rows

pub compare_decided : Answers compare.Kinds.ps compare.Kinds.r compare.Reads.Post
compare_decided κs a x y s t = only

pub rest_decided : Decides rest.Kinds.ps rest.Kinds.r rest.Reads.Post (λ κs x s. x.now)
rest_decided κs a x y s t = only

pub compare_value_decided : Answers compare_value.Kinds.ps compare_value.Kinds.r compare_value.Reads.Post
compare_value_decided κs a x y s t = only

pub next_field_decided : Answers next_field.Kinds.ps next_field.Kinds.r next_field.Reads.Post
next_field_decided κs a x y s t = only

pub skip_decided : Answers skip.Kinds.ps skip.Kinds.r skip.Reads.Post
skip_decided κs a x y s t = only

pub compare_rows_decided : Answers compare_rows.Kinds.ps compare_rows.Kinds.r compare_rows.Reads.Post
compare_rows_decided κs a x y s t = only
