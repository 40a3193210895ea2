use Rattle.judge_addresses.proofs.Addresses.{lines_none, lines_some}
use Rattle.judge_addresses.proofs.lines_said.Goals as goal

pub returns-then-none : goal.returns-then-none
returns-then-none c = search lines_none

pub returns : goal.returns
returns c = search lines_some
