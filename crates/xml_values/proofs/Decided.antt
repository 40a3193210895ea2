-- The contracts of this crate decide what is answered and left.
-- Assumes nothing.
use Rattle.text_scan.proofs.Decides.{only, Answers, Decides}
use Rattle.xml_values.proofs.name_after
use Rattle.xml_values.proofs.is_bare
use Rattle.xml_values.proofs.attribute_place
use Rattle.xml_values.proofs.has_other_attribute
use Rattle.xml_values.proofs.all_shown
use Rattle.xml_values.proofs.plain
use Rattle.xml_values.proofs.plain_attribute
use Rattle.xml_values.proofs.attribute_value
use Rattle.xml_values.proofs.shown
use Rattle.xml_values.proofs.attribute

pub name_after_decided : Answers name_after.Kinds.ps name_after.Kinds.r name_after.Reads.Post
name_after_decided κs a x y s t = only

pub is_bare_decided : Answers is_bare.Kinds.ps is_bare.Kinds.r is_bare.Reads.Post
is_bare_decided κs a x y s t = only

pub attribute_place_decided : Answers attribute_place.Kinds.ps attribute_place.Kinds.r attribute_place.Reads.Post
attribute_place_decided κs a x y s t = only

pub has_other_attribute_decided : Answers has_other_attribute.Kinds.ps has_other_attribute.Kinds.r has_other_attribute.Reads.Post
has_other_attribute_decided κs a x y s t = only

pub all_shown_decided : Answers all_shown.Kinds.ps all_shown.Kinds.r all_shown.Reads.Post
all_shown_decided κs a x y s t = only

pub plain_decided : Answers plain.Kinds.ps plain.Kinds.r plain.Reads.Post
plain_decided κs a x y s t = only

pub plain_attribute_decided : Answers plain_attribute.Kinds.ps plain_attribute.Kinds.r plain_attribute.Reads.Post
plain_attribute_decided κs a x y s t = only

pub attribute_value_decided : Answers attribute_value.Kinds.ps attribute_value.Kinds.r attribute_value.Reads.Post
attribute_value_decided κs a x y s t p q = only p.answers q.answers

pub attribute_value_out : Decides attribute_value.Kinds.ps attribute_value.Kinds.r attribute_value.Reads.Post (λ κs x s. s.1.1.1.0.now)
attribute_value_out κs a x y s t p q = only p.leaves q.leaves

pub shown_bytes : Decides shown.Kinds.ps shown.Kinds.r shown.Reads.Post (λ κs x s. x.now)
shown_bytes κs a x y s t p q = only p.says q.says

pub shown_place : Decides shown.Kinds.ps shown.Kinds.r shown.Reads.Post (λ κs x s. x.ref_ptr)
shown_place κs a x y s t p q = only p.stands q.stands

pub attribute_bytes : Decides attribute.Kinds.ps attribute.Kinds.r attribute.Reads.Post (λ κs x s. x.now)
attribute_bytes κs a x y s t p q = only p.says q.says

pub attribute_place_lem : Decides attribute.Kinds.ps attribute.Kinds.r attribute.Reads.Post (λ κs x s. x.ref_ptr)
attribute_place_lem κs a x y s t p q = only p.stands q.stands
