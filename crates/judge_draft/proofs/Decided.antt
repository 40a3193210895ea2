-- The contracts of this crate decide what is answered and left.
-- Assumes nothing.
use Rattle.text_scan.proofs.Decides.{only, Answers}
use Rattle.judge_draft.proofs.Draft.number
use Rattle.judge_draft.proofs.Draft.role_at
use Rattle.judge_draft.proofs.Draft.is_role
use Rattle.judge_draft.proofs.Draft.is_known
use Rattle.judge_draft.proofs.Draft.parent
use Rattle.judge_draft.proofs.Draft.byte_after
use Rattle.judge_draft.proofs.Draft.first_byte
use Rattle.judge_draft.proofs.Draft.attribute_is
use Rattle.judge_draft.proofs.Draft.attribute_begins
use Rattle.judge_draft.proofs.Draft.attribute_is_empty
use Rattle.judge_draft.proofs.Draft.attribute_has
use Rattle.judge_draft.proofs.Draft.text_is
use Rattle.judge_draft.proofs.Draft.text_is_empty

pub number_decided : Answers number.Kinds.ps number.Kinds.r number.Reads.Post
number_decided κs a x y s t p q = only p.0 q.0

pub role_at_decided : Answers role_at.Kinds.ps role_at.Kinds.r role_at.Reads.Post
role_at_decided κs a x y s t = only

pub is_role_decided : Answers is_role.Kinds.ps is_role.Kinds.r is_role.Reads.Post
is_role_decided κs a x y s t = only

pub is_known_decided : Answers is_known.Kinds.ps is_known.Kinds.r is_known.Reads.Post
is_known_decided κs a x y s t = only

pub parent_decided : Answers parent.Kinds.ps parent.Kinds.r parent.Reads.Post
parent_decided κs a x y s t = only

pub byte_after_decided : Answers byte_after.Kinds.ps byte_after.Kinds.r byte_after.Reads.Post
byte_after_decided κs a x y s t = only

pub first_byte_decided : Answers first_byte.Kinds.ps first_byte.Kinds.r first_byte.Reads.Post
first_byte_decided κs a x y s t = only

pub attribute_is_decided : Answers attribute_is.Kinds.ps attribute_is.Kinds.r attribute_is.Reads.Post
attribute_is_decided κs a x y s t = only

pub attribute_begins_decided : Answers attribute_begins.Kinds.ps attribute_begins.Kinds.r attribute_begins.Reads.Post
attribute_begins_decided κs a x y s t = only

pub attribute_is_empty_decided : Answers attribute_is_empty.Kinds.ps attribute_is_empty.Kinds.r attribute_is_empty.Reads.Post
attribute_is_empty_decided κs a x y s t = only

pub attribute_has_decided : Answers attribute_has.Kinds.ps attribute_has.Kinds.r attribute_has.Reads.Post
attribute_has_decided κs a x y s t = only

pub text_is_decided : Answers text_is.Kinds.ps text_is.Kinds.r text_is.Reads.Post
text_is_decided κs a x y s t = only

pub text_is_empty_decided : Answers text_is_empty.Kinds.ps text_is_empty.Kinds.r text_is_empty.Reads.Post
text_is_empty_decided κs a x y s t = only
