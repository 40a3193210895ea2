use Rattle.list_writer.proofs.Filled.{full_list, full_count, room_list, room_count}
use Rattle.list_writer.proofs.place.Goals as goal

pub returns-then-list-count : goal.returns-then-list-count
returns-then-list-count c = search (full_list, full_count)

pub returns : goal.returns
returns c = search (room_list, room_count)
