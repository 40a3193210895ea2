-- `judge_marks::write` meets its contract.
use Rattle.judge_marks.proofs.Appended.{Writing}
use Rattle.judge_marks.proofs.write.Given as goal

abbrev pub invariant-loop-n : goal.invariant-loop-n
invariant-loop-n l = Writing l.draft.document.now l.draft.notes.now l.marks l.initial.list l.list l.n l.count
