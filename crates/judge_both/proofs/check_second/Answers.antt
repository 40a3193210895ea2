use borrow.Author.Tests.{not-false}
use Rattle.judge_both.proofs.Steps.{check_there, first_room, first_no_room, second_refused, second_merged}
use Rattle.judge_both.proofs.check_second.Goals as goal

pub returns-then-not-keep : goal.returns-then-not-keep
returns-then-not-keep c = search first_no_room

pub merge_second-requires : goal.merge_second-requires
merge_second-requires c =
    let k = c.keep.ensures in
    (search check_there, first_room _ _ _ _ k.1 _ k.0 (search not-false))

pub returns-in-Err : goal.returns-in-Err
returns-in-Err c = search second_refused

pub returns-in-Ok : goal.returns-in-Ok
returns-in-Ok c = search second_merged
