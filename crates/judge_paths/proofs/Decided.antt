-- The contracts of this crate decide what is answered and left.
-- Assumes nothing.
use Rattle.text_scan.proofs.Decides.{only, Answers}
use Rattle.judge_paths.proofs.child_role

pub child_role_decided : Answers child_role.Kinds.ps child_role.Kinds.r child_role.Reads.Post
child_role_decided κs a x y s t = only
