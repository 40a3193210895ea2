use mathlib.Core.Path.{refl}
use Rattle.xml_references.proofs.Ends.{jump_room, jump_falls}
use Rattle.xml_references.proofs.Writes.{plain_fits, plain_wrote, kept_fits, kept_wrote, code_fits, code_wrote, end_least, end_count, end_wrote}
use Rattle.xml_references.proofs.decode_at.Goals as goal

pub loop-i-init : goal.loop-i-init
loop-i-init c = (refl, refl, refl)

pub overflow_add-n : goal.overflow_add-n
overflow_add-n c = search plain_fits

pub loop-i-preserved-then-b-ne38 : goal.loop-i-preserved-then-b-ne38
loop-i-preserved-then-b-ne38 c = search plain_wrote

pub overflow_add-n-in_default : goal.overflow_add-n-in_default
overflow_add-n-in_default c = search kept_fits

pub loop-i-preserved-in_default : goal.loop-i-preserved-in_default
loop-i-preserved-in_default c = search kept_wrote

pub overflow_add-n-in-loop-i : goal.overflow_add-n-in-loop-i
overflow_add-n-in-loop-i c = search code_fits

pub overflow_add-i-in-loop-i : goal.overflow_add-i-in-loop-i
overflow_add-i-in-loop-i c = search jump_room

pub loop-i-smaller : goal.loop-i-smaller
loop-i-smaller c = search jump_falls

pub loop-i-preserved : goal.loop-i-preserved
loop-i-preserved c = search code_wrote

pub overflow_sub-result : goal.overflow_sub-result
overflow_sub-result c = search end_least

pub shape_of-out : goal.shape_of-out
shape_of-out c = c.loop-i.invariant.2

pub returns : goal.returns
returns c = (search end_count, search end_wrote)
