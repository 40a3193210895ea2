use Rattle.judge_paths.proofs.Walks.{role_root}
use Rattle.judge_notes.proofs.Noted.{role_stored}
use Rattle.judge_notes.proofs.Below.{below_none, below_late}
use Rattle.judge_notes.proofs.+role_of.Goals as goal

pub returns-then-n-stored : goal.returns-then-n-stored
returns-then-n-stored t c = search role_stored

pub returns-then-n-eq0 : goal.returns-then-n-eq0
returns-then-n-eq0 t c = search role_root

pub returns-then-elements-n : goal.returns-then-elements-n
returns-then-elements-n t c = search below_none

pub returns-then-n-parent : goal.returns-then-n-parent
returns-then-n-parent t c = search below_late
