-- The contracts of this crate decide what is answered and left.
-- Assumes nothing.
use Rattle.text_scan.proofs.Decides.{only, Answers}
use Rattle.judge_history.proofs.has_document
use Rattle.judge_history.proofs.has_version
use Rattle.judge_history.proofs.has_key_elsewhere
use Rattle.judge_history.proofs.has_other_key

pub has_document_decided : Answers has_document.Kinds.ps has_document.Kinds.r has_document.Reads.Post
has_document_decided κs a x y s t = only

pub has_version_decided : Answers has_version.Kinds.ps has_version.Kinds.r has_version.Reads.Post
has_version_decided κs a x y s t = only

pub has_key_elsewhere_decided : Answers has_key_elsewhere.Kinds.ps has_key_elsewhere.Kinds.r has_key_elsewhere.Reads.Post
has_key_elsewhere_decided κs a x y s t = only

pub has_other_key_decided : Answers has_other_key.Kinds.ps has_other_key.Kinds.r has_other_key.Reads.Post
has_other_key_decided κs a x y s t = only
