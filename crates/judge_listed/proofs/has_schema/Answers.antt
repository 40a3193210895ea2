use Rattle.judge_listed.proofs.Laws.{by_location, wrong_instance}
use Rattle.judge_listed.proofs.has_schema.Goals as goal

pub returns-then-attribute_is : goal.returns-then-attribute_is
returns-then-attribute_is c = search by_location

pub returns : goal.returns
returns c = search wrong_instance
