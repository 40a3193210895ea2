use Rattle.text_chars.proofs.Decode.{tail_under, tail_over, tail_in, no_c, no_d, three, four, high}
use Rattle.text_chars.proofs.long_width.Goals as goal

pub returns-then-c-lt128 : goal.returns-then-c-lt128
returns-then-c-lt128 c = search (no_c, tail_under)

pub returns-then-c-gt191 : goal.returns-then-c-gt191
returns-then-c-gt191 c = search (no_c, tail_over)

pub returns-then-a-lt240 : goal.returns-then-a-lt240
returns-then-a-lt240 c = search (three, tail_in)

pub returns-then-a-gt247 : goal.returns-then-a-gt247
returns-then-a-gt247 c = search high

pub returns-then-d-lt128 : goal.returns-then-d-lt128
returns-then-d-lt128 c = search (no_d, tail_under)

pub returns-then-d-gt191 : goal.returns-then-d-gt191
returns-then-d-gt191 c = search (no_d, tail_over)

pub returns : goal.returns
returns c = search (four, tail_in)
