use Rattle.judge_kept.proofs.Run.{stands_there, stands_outside, stands_nowhere}
use Rattle.judge_kept.proofs.place_at.Goals as goal
use Rattle.judge_kept.proofs.place_at.Goals.{else-a-f-via-then-a-f+else-f-document, else-a-f-via-else-a-f}

pub returns-then-f-document : goal.returns-then-f-document
returns-then-f-document c = search stands_there

pub returns-else-a-f : goal.returns-else-a-f
returns-else-a-f c = elim c.else-a-f.branch [ else-a-f-via-then-a-f+else-f-document w ↦ search stands_outside | else-a-f-via-else-a-f w ↦ search stands_nowhere ]
