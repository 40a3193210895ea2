-- `text_numbers::value` meets its contract. The invariant: the value of the whole is that of v followed by what is left.
use Rattle.text_numbers.proofs.NumberLaws.{Told}
use Rattle.text_numbers.proofs.value.Given as goal

abbrev pub invariant-loop-b : goal.invariant-loop-b
invariant-loop-b l = Told l.s l.v l.b-index
