-- `judge_below::how_many` meets its contract.
use Rattle.judge_below.proofs.Looking.{Counted}
use Rattle.judge_below.proofs.how_many.Given as goal

abbrev pub invariant-loop-k : goal.invariant-loop-k
invariant-loop-k l = Counted l.draft.document.now l.draft.notes.now l.wanted l.n l.found l.k
