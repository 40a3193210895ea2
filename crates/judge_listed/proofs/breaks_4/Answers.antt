use Rattle.judge_listed.proofs.Laws.{four_known, four_unknown, three_holds}
use Rattle.judge_listed.proofs.breaks_4.Goals as goal

pub returns-then-three : goal.returns-then-three
returns-then-three c = search four_known

pub has_space_listed-requires : goal.has_space_listed-requires
has_space_listed-requires c = search three_holds

pub returns-then-is_known : goal.returns-then-is_known
returns-then-is_known c = search four_known

pub returns : goal.returns
returns c = search four_unknown
