-- The contracts of this crate decide what is answered and left.
-- Assumes nothing.
use Rattle.text_scan.proofs.Decides.{only, Answers}
use Rattle.judge_operations.proofs.breaks_33
use Rattle.judge_operations.proofs.demand_34
use Rattle.judge_operations.proofs.has_establishment
use Rattle.judge_operations.proofs.entity_at
use Rattle.judge_operations.proofs.held_at
use Rattle.judge_operations.proofs.breaks_37
use Rattle.judge_operations.proofs.breaks_38

pub breaks_33_decided : Answers breaks_33.Kinds.ps breaks_33.Kinds.r breaks_33.Reads.Post
breaks_33_decided κs a x y s t = only

pub demand_34_decided : Answers demand_34.Kinds.ps demand_34.Kinds.r demand_34.Reads.Post
demand_34_decided κs a x y s t = only

pub has_establishment_decided : Answers has_establishment.Kinds.ps has_establishment.Kinds.r has_establishment.Reads.Post
has_establishment_decided κs a x y s t = only

pub entity_at_decided : Answers entity_at.Kinds.ps entity_at.Kinds.r entity_at.Reads.Post
entity_at_decided κs a x y s t = only

pub held_at_decided : Answers held_at.Kinds.ps held_at.Kinds.r held_at.Reads.Post
held_at_decided κs a x y s t = only

pub breaks_37_decided : Answers breaks_37.Kinds.ps breaks_37.Kinds.r breaks_37.Reads.Post
breaks_37_decided κs a x y s t = only

pub breaks_38_decided : Answers breaks_38.Kinds.ps breaks_38.Kinds.r breaks_38.Reads.Post
breaks_38_decided κs a x y s t = only
