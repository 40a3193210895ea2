use Rattle.judge_below.proofs.Looking.{there, elsewhere}
use Rattle.judge_below.proofs.is_placed.Goals as goal

pub returns-then-ancestor-n : goal.returns-then-ancestor-n
returns-then-ancestor-n c = search there

pub returns : goal.returns
returns c = search elsewhere
