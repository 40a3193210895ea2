-- The contracts of this crate decide what is answered and left.
-- Assumes nothing.
use Rattle.text_scan.proofs.Decides.{only, Answers}
use Rattle.judge_procedures.proofs.demand

pub demand_decided : Answers demand.Kinds.ps demand.Kinds.r demand.Reads.Post
demand_decided κs a x y s t = only
