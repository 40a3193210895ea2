-- `judge_paths::child_in` meets its contract.
use Rattle.judge_paths.proofs.Words.{Looked}
use Rattle.judge_paths.proofs.child_in.Given as goal

abbrev pub invariant-loop-number : goal.invariant-loop-number
invariant-loop-number l = Looked l.words l.lengths l.roles l.name l.at l.number
