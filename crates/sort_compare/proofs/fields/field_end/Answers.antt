use native.Mathlib.Omega.{arith}
use Rattle.sort_compare.proofs.Parts.{end_plain, end_here, end_goes, end_most}
use Rattle.sort_compare.proofs.fields.field_end.Goals as goal

pub loop-i-init : goal.loop-i-init
loop-i-init c = (omega arith, search end_plain)

pub returns-then-is_end : goal.returns-then-is_end
returns-then-is_end c = search end_here

pub loop-i-preserved : goal.loop-i-preserved
loop-i-preserved c = (omega arith, search end_goes)

pub returns : goal.returns
returns c = search end_most
