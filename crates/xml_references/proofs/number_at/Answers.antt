use mathlib.Core.Path.{refl}
use native.Mathlib.Omega.{arith}
use borrow.Author.Rules.{rules}
use Rattle.xml_references.proofs.Digits.{mul_small, add_small, next, too_large, other, ended, no_char, out}
use Rattle.xml_references.proofs.number_at.Goals as goal

pub loop-w-init : goal.loop-w-init
loop-w-init c = (refl, omega arith, omega arith)

pub overflow_mul-v : goal.overflow_mul-v
overflow_mul-v c = search mul_small

pub overflow_add-v : goal.overflow_add-v
overflow_add-v c = search add_small

pub returns-then-v-gt1114111 : goal.returns-then-v-gt1114111
returns-then-v-gt1114111 c = search too_large

pub loop-w-preserved : goal.loop-w-preserved
loop-w-preserved c = search (next, rules)

pub returns-then-b-ne59 : goal.returns-then-b-ne59
returns-then-b-ne59 c = search other

pub returns-then-is_char : goal.returns-then-is_char
returns-then-is_char c = search ended

pub returns-in-loop-w : goal.returns-in-loop-w
returns-in-loop-w c = search no_char

pub returns : goal.returns
returns c = search out
