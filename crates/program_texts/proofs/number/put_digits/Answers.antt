use native.Mathlib.Omega.{arith}
use Rattle.program_texts.proofs.Decimal.{twenty}
use Rattle.program_texts.proofs.number.put_digits.Goals as goal

pub put_last-requires : goal.put_last-requires
put_last-requires c = omega (arith, twenty _ _ (omega arith) c.digit_count-k.ensures)

pub returns : goal.returns
returns c = record { in_bounds = twenty _ _ (omega arith) c.digit_count-k.ensures; count = c.digit_count-k.ensures; digits = c.put_last.ensures }
