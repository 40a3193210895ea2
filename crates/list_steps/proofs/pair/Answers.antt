use Rattle.list_steps.proofs.Steps.{pair_first, pair_second, pair_keep, pair_fault}
use Rattle.list_steps.proofs.pair.Goals as goal

pub returns-then-precedes : goal.returns-then-precedes
returns-then-precedes c = search pair_first

pub returns-then-precedes-2 : goal.returns-then-precedes-2
returns-then-precedes-2 c = search pair_second

pub returns-then-x-y : goal.returns-then-x-y
returns-then-x-y c = search pair_keep

pub returns : goal.returns
returns c = search pair_fault
