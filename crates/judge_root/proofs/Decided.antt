-- The contracts of this crate decide what is answered and left.
-- Assumes nothing.
use Rattle.text_scan.proofs.Decides.{only, Answers}
use Rattle.judge_root.proofs.breaks_5
use Rattle.judge_root.proofs.demand_6
use Rattle.judge_root.proofs.breaks_7
use Rattle.judge_root.proofs.demand_8
use Rattle.judge_root.proofs.breaks_9
use Rattle.judge_root.proofs.breaks_10
use Rattle.judge_root.proofs.breaks_11
use Rattle.judge_root.proofs.demand_12
use Rattle.judge_root.proofs.breaks_13

pub breaks_5_decided : Answers breaks_5.Kinds.ps breaks_5.Kinds.r breaks_5.Reads.Post
breaks_5_decided κs a x y s t = only

pub demand_6_decided : Answers demand_6.Kinds.ps demand_6.Kinds.r demand_6.Reads.Post
demand_6_decided κs a x y s t = only

pub breaks_7_decided : Answers breaks_7.Kinds.ps breaks_7.Kinds.r breaks_7.Reads.Post
breaks_7_decided κs a x y s t = only

pub demand_8_decided : Answers demand_8.Kinds.ps demand_8.Kinds.r demand_8.Reads.Post
demand_8_decided κs a x y s t = only

pub breaks_9_decided : Answers breaks_9.Kinds.ps breaks_9.Kinds.r breaks_9.Reads.Post
breaks_9_decided κs a x y s t = only

pub breaks_10_decided : Answers breaks_10.Kinds.ps breaks_10.Kinds.r breaks_10.Reads.Post
breaks_10_decided κs a x y s t = only

pub breaks_11_decided : Answers breaks_11.Kinds.ps breaks_11.Kinds.r breaks_11.Reads.Post
breaks_11_decided κs a x y s t = only

pub demand_12_decided : Answers demand_12.Kinds.ps demand_12.Kinds.r demand_12.Reads.Post
demand_12_decided κs a x y s t = only

pub breaks_13_decided : Answers breaks_13.Kinds.ps breaks_13.Kinds.r breaks_13.Reads.Post
breaks_13_decided κs a x y s t = only
