-- `judge_below::next` meets its contract.
use Rattle.judge_draft.specs.Drafts.{lent}
use Rattle.judge_below.proofs.Looking.{Next}
use Rattle.judge_below.proofs.next.Given as goal

abbrev pub invariant-loop-k : goal.invariant-loop-k
invariant-loop-k l = Next (lent l.draft) l.wanted l.n l.from l.k
