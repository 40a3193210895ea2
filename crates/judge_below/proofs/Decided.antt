-- The contracts of this crate decide what is answered and left.
-- Assumes nothing.
use Rattle.text_scan.proofs.Decides.{only, Answers}
use Rattle.judge_below.proofs.ancestor
use Rattle.judge_below.proofs.only
use Rattle.judge_below.proofs.only_kid
use Rattle.judge_below.proofs.is_only
use Rattle.judge_below.proofs.is_only_kid
use Rattle.judge_below.proofs.none
use Rattle.judge_below.proofs.how_many

pub ancestor_decided : Answers ancestor.Kinds.ps ancestor.Kinds.r ancestor.Reads.Post
ancestor_decided κs a x y s t = only

pub only_decided : Answers only.Kinds.ps only.Kinds.r only.Reads.Post
only_decided κs a x y s t = only

pub only_kid_decided : Answers only_kid.Kinds.ps only_kid.Kinds.r only_kid.Reads.Post
only_kid_decided κs a x y s t = only

pub is_only_decided : Answers is_only.Kinds.ps is_only.Kinds.r is_only.Reads.Post
is_only_decided κs a x y s t = only

pub is_only_kid_decided : Answers is_only_kid.Kinds.ps is_only_kid.Kinds.r is_only_kid.Reads.Post
is_only_kid_decided κs a x y s t = only

pub none_decided : Answers none.Kinds.ps none.Kinds.r none.Reads.Post
none_decided κs a x y s t = only

pub how_many_decided : Answers how_many.Kinds.ps how_many.Kinds.r how_many.Reads.Post
how_many_decided κs a x y s t = only
