-- The contracts of this crate decide what is answered and left.
-- Assumes nothing.
use Rattle.text_scan.proofs.Decides.{only, Decides}
use Rattle.judge_notes.proofs.fill

pub fill_decided : Decides fill.Kinds.ps fill.Kinds.r fill.Reads.Post (λ κs x s. s.1.1.1.0.now)
fill_decided κs a x y s t = only
