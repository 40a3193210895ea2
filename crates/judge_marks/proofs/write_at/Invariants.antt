-- `judge_marks::write_at` meets its contract.
use Rattle.judge_draft.specs.Drafts.{lent}
use Rattle.judge_marks.proofs.Appended.{Left}
use Rattle.judge_marks.proofs.write_at.Given as goal

abbrev pub invariant-loop-i : goal.invariant-loop-i
invariant-loop-i l = Left (lent l.draft) l.n l.mark l.initial.list l.count l.list l.m l.i l.k
