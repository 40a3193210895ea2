-- `judge_asking::mark` meets its contract.
use Rattle.judge_draft.specs.Drafts.{lent}
use Rattle.judge_answers.specs.Answers.{tables_at}
use Rattle.judge_asking.proofs.Marked.{Marking}
use Rattle.judge_asking.proofs.mark.Given as goal

abbrev pub invariant-loop-i : goal.invariant-loop-i
invariant-loop-i l = Marking (lent l.draft) l.header (tables_at l.tables l.places) l.n l.row l.i l.m
