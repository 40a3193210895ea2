-- The contracts of this crate decide what is answered and left.
-- Assumes nothing.
use Rattle.text_scan.proofs.Decides.{only, Answers}
use Rattle.table_search.proofs.some_row

pub some_row_decided : Answers some_row.Kinds.ps some_row.Kinds.r some_row.Reads.Post
some_row_decided κs a x y s t = only
