use Rattle.text_chars.proofs.Decode.{tail_under, tail_over, tail_in, low, mid, no_b, two}
use native.Mathlib.Omega.{arith}
use Rattle.text_chars.proofs.width_at.Goals as goal

pub overflow_cast-a : goal.overflow_cast-a
overflow_cast-a c = omega (arith, c.type_inv.s c.args.i)

pub returns-then-a-lt128 : goal.returns-then-a-lt128
returns-then-a-lt128 c = search low

pub returns-then-a-lt192 : goal.returns-then-a-lt192
returns-then-a-lt192 c = search mid

pub returns-then-b-lt128 : goal.returns-then-b-lt128
returns-then-b-lt128 c = search (no_b, tail_under)

pub returns-then-b-gt191 : goal.returns-then-b-gt191
returns-then-b-gt191 c = search (no_b, tail_over)

pub returns-then-a-lt224 : goal.returns-then-a-lt224
returns-then-a-lt224 c = search (two, tail_in)
