use Rattle.judge_listed.proofs.Laws.{by_schema, wrong_space}
use Rattle.judge_listed.proofs.is_declared.Goals as goal

pub returns-then-attribute_is : goal.returns-then-attribute_is
returns-then-attribute_is c = search by_schema

pub returns : goal.returns
returns c = search wrong_space
