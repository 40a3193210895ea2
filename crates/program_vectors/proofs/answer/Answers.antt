use Rattle.program_answer.proofs.Rooms.{printed_within, printed_front}
use Rattle.program_vectors.proofs.answer.Goals as goal

pub returns-else-rows : goal.returns-else-rows
returns-else-rows c = (search printed_within, search printed_front)
