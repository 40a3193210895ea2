-- The contract of `fill` decides which run is left, and that of `from` what is answered.
-- Assumes nothing.
use Rattle.text_scan.proofs.Decides.{only, Answers, Decides}
use Rattle.table_index.proofs.QuestionFromLookup.from
use Rattle.table_index.proofs.fill
use Rattle.table_index.proofs.Runs.{one_fill}

pub from_decided : Answers from.Kinds.ps from.Kinds.r from.Reads.Post
from_decided κs a x y s t = only

pub fill_index : Decides fill.Kinds.ps fill.Kinds.r fill.Reads.Post (λ κs x s. s.1.1.1.1.1.1.0.now)
fill_index κs a x y s t p q = one_fill _ _ _ _ _ _ _ p _ q
