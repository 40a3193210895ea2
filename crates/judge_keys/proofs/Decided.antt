-- The contracts of this crate decide what is answered and left.
-- Assumes nothing.
use Rattle.text_scan.proofs.Decides.{only, Answers}
use Rattle.judge_keys.proofs.breaks_19
use Rattle.judge_keys.proofs.breaks_20
use Rattle.judge_keys.proofs.demand_21
use Rattle.judge_keys.proofs.demand_22

pub breaks_19_decided : Answers breaks_19.Kinds.ps breaks_19.Kinds.r breaks_19.Reads.Post
breaks_19_decided κs a x y s t = only

pub breaks_20_decided : Answers breaks_20.Kinds.ps breaks_20.Kinds.r breaks_20.Reads.Post
breaks_20_decided κs a x y s t = only

pub demand_21_decided : Answers demand_21.Kinds.ps demand_21.Kinds.r demand_21.Reads.Post
demand_21_decided κs a x y s t = only

pub demand_22_decided : Answers demand_22.Kinds.ps demand_22.Kinds.r demand_22.Reads.Post
demand_22_decided κs a x y s t = only
