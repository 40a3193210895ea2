-- The contracts of this crate decide what is answered and left.
-- Assumes nothing.
use Rattle.text_scan.proofs.Decides.{only, Answers}
use Rattle.judge_organisations.proofs.has_one
use Rattle.judge_organisations.proofs.breaks_14
use Rattle.judge_organisations.proofs.breaks_15
use Rattle.judge_organisations.proofs.has_extension
use Rattle.judge_organisations.proofs.breaks_16
use Rattle.judge_organisations.proofs.is_said
use Rattle.judge_organisations.proofs.breaks_17
use Rattle.judge_organisations.proofs.demand_18

pub has_one_decided : Answers has_one.Kinds.ps has_one.Kinds.r has_one.Reads.Post
has_one_decided κs a x y s t = only

pub breaks_14_decided : Answers breaks_14.Kinds.ps breaks_14.Kinds.r breaks_14.Reads.Post
breaks_14_decided κs a x y s t = only

pub breaks_15_decided : Answers breaks_15.Kinds.ps breaks_15.Kinds.r breaks_15.Reads.Post
breaks_15_decided κs a x y s t = only

pub has_extension_decided : Answers has_extension.Kinds.ps has_extension.Kinds.r has_extension.Reads.Post
has_extension_decided κs a x y s t = only

pub breaks_16_decided : Answers breaks_16.Kinds.ps breaks_16.Kinds.r breaks_16.Reads.Post
breaks_16_decided κs a x y s t = only

pub is_said_decided : Answers is_said.Kinds.ps is_said.Kinds.r is_said.Reads.Post
is_said_decided κs a x y s t = only

pub breaks_17_decided : Answers breaks_17.Kinds.ps breaks_17.Kinds.r breaks_17.Reads.Post
breaks_17_decided κs a x y s t = only

pub demand_18_decided : Answers demand_18.Kinds.ps demand_18.Kinds.r demand_18.Reads.Post
demand_18_decided κs a x y s t = only
