use Rattle.judge_listed.proofs.Laws.{space_extension, space_code}
use Rattle.judge_listed.proofs.has_space.Goals as goal

pub returns-then-attribute_has : goal.returns-then-attribute_has
returns-then-attribute_has c = search space_extension

pub returns : goal.returns
returns c = search space_code
