use mathlib.Core.Path.{refl}
use native.Mathlib.Omega.{arith}
use Rattle.xml_references.proofs.Ends.{jump_room, jump_falls}
use Rattle.xml_compare.proofs.Compared.{compared_end, compared_over, compared_differs, compared_next, code_most, compared_other, compared_past}
use Rattle.xml_compare.proofs.is_value.Goals as goal

pub loop-i-init : goal.loop-i-init
loop-i-init c = (refl, omega arith)

pub returns-then-bytes-n : goal.returns-then-bytes-n
returns-then-bytes-n c = search compared_over

pub returns-then-bytes-n-2 : goal.returns-then-bytes-n-2
returns-then-bytes-n-2 c = search compared_differs

pub loop-i-preserved-in_default : goal.loop-i-preserved-in_default
loop-i-preserved-in_default c = search compared_next

pub character_end-requires : goal.character_end-requires
character_end-requires c = search code_most

pub returns-in_default-character_end : goal.returns-in_default-character_end
returns-in_default-character_end c = search compared_other

pub overflow_add-i-in-loop-i : goal.overflow_add-i-in-loop-i
overflow_add-i-in-loop-i c = search jump_room

pub loop-i-smaller : goal.loop-i-smaller
loop-i-smaller c = search jump_falls

pub loop-i-preserved : goal.loop-i-preserved
loop-i-preserved c = search compared_past

pub returns : goal.returns
returns c = search compared_end
