use Rattle.judge_both.proofs.Steps.{kept_room, no_room_answer, no_room_list, merged_answer, merged_list}
use Rattle.std.proofs.Common.{rules}
use Rattle.judge_both.proofs.merge_second.Goals as goal

pub returns-then-not-keep : goal.returns-then-not-keep
returns-then-not-keep c = (search no_room_answer, search rules, search no_room_list)

pub merge_parts-requires : goal.merge_parts-requires
merge_parts-requires c = search kept_room

pub returns : goal.returns
returns c = (search merged_answer, search rules, search merged_list)
