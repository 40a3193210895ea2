use native.Mathlib.Omega.{arith}
use lib.ListN.{length-set}
use Rattle.judge_kept.proofs.Stored.{two_stored}
use Rattle.judge_kept.proofs.put_place.Goals as goal

pub bounds-notes-at-2 : goal.bounds-notes-at-2
bounds-notes-at-2 c = simp length-set (omega arith)

pub returns : goal.returns
returns c = search two_stored
