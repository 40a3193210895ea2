use mathlib.Core.Path.{refl}
use native.Mathlib.Omega.{arith}
use Rattle.text_numbers.proofs.NumberLaws.{mul_fits, add_fits, told_again, told}
use Rattle.text_numbers.proofs.value.Goals as goal

pub loop-b-init : goal.loop-b-init
loop-b-init c = (refl, omega arith)

pub overflow_mul-v : goal.overflow_mul-v
overflow_mul-v c = search mul_fits

pub overflow_add-v : goal.overflow_add-v
overflow_add-v c = search add_fits

pub loop-b-preserved : goal.loop-b-preserved
loop-b-preserved c = search told_again

pub returns : goal.returns
returns c = search told
