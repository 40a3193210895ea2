-- The contracts of this crate decide what is answered and left.
-- Assumes nothing.
use Rattle.text_scan.proofs.Decides.{only, Answers}
use Rattle.judge_addresses.proofs.one_said
use Rattle.judge_addresses.proofs.address_holds
use Rattle.judge_addresses.proofs.breaks_24
use Rattle.judge_addresses.proofs.is_usa
use Rattle.judge_addresses.proofs.breaks_25

pub one_said_decided : Answers one_said.Kinds.ps one_said.Kinds.r one_said.Reads.Post
one_said_decided κs a x y s t = only

pub address_holds_decided : Answers address_holds.Kinds.ps address_holds.Kinds.r address_holds.Reads.Post
address_holds_decided κs a x y s t = only

pub breaks_24_decided : Answers breaks_24.Kinds.ps breaks_24.Kinds.r breaks_24.Reads.Post
breaks_24_decided κs a x y s t = only

pub is_usa_decided : Answers is_usa.Kinds.ps is_usa.Kinds.r is_usa.Reads.Post
is_usa_decided κs a x y s t = only

pub breaks_25_decided : Answers breaks_25.Kinds.ps breaks_25.Kinds.r breaks_25.Reads.Post
breaks_25_decided κs a x y s t = only
