use native.Mathlib.Omega.{arith}
use lib.ListN.{length-set}
use Rattle.judge_notes.proofs.put_note.Goals as goal

pub bounds-notes-k-2 : goal.bounds-notes-k-2
bounds-notes-k-2 c = simp length-set (omega arith)

pub bounds-notes-k-3 : goal.bounds-notes-k-3
bounds-notes-k-3 c = simp length-set (omega arith)

pub bounds-notes-k-4 : goal.bounds-notes-k-4
bounds-notes-k-4 c = simp length-set (omega arith)
