use mathlib.Core.Path.{refl}
use native.Mathlib.Omega.{arith}
use Rattle.program_texts.proofs.Puts.{told_none, told_next, told_out, told_over, next_there, next_room, long_still}
use Rattle.program_texts.proofs.put_findings.Goals as goal

pub loop-i-init : goal.loop-i-init
loop-i-init c = (refl, omega arith, omega arith, told_none _ _ _ _)

pub loop-i-preserved : goal.loop-i-preserved
loop-i-preserved c = (search long_still, search next_there, search next_room, search told_next)

pub returns-then-not-has_record : goal.returns-then-not-has_record
returns-then-not-has_record c = search told_out

pub returns : goal.returns
returns c = search told_over
