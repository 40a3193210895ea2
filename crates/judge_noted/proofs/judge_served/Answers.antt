use Rattle.judge_noted.proofs.Judged.{marks_room, all_told, draft_left}
use Rattle.judge_noted.proofs.judge_served.Goals as goal

pub answer-requires : goal.answer-requires
answer-requires c = (search marks_room, search all_told)

pub returns : goal.returns
returns c = search draft_left
