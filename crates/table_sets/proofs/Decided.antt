-- The contracts of this crate decide what is answered and left.
-- Assumes nothing.
use Rattle.text_scan.proofs.Decides.{only, Answers}
use Rattle.table_sets.proofs.keys_of
use Rattle.table_sets.proofs.has_other_key

pub keys_of_decided : Answers keys_of.Kinds.ps keys_of.Kinds.r keys_of.Reads.Post
keys_of_decided κs a x y s t = only

pub has_other_key_decided : Answers has_other_key.Kinds.ps has_other_key.Kinds.r has_other_key.Reads.Post
has_other_key_decided κs a x y s t = only
