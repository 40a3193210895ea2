-- `judge_input::clear` meets its contract.
use Rattle.judge_input.proofs.Cleared.{ToClear}
use Rattle.judge_input.proofs.clear.Given as goal

abbrev pub invariant-loop-k : goal.invariant-loop-k
invariant-loop-k l = ToClear l.initial.scratch l.scratch l.k
