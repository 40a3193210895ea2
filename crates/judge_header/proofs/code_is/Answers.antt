use Rattle.judge_header.proofs.Holds.{code_system, no_system}
use Rattle.judge_header.proofs.code_is.Goals as goal

pub returns-then-attribute_is : goal.returns-then-attribute_is
returns-then-attribute_is c = search code_system

pub returns : goal.returns
returns c = search no_system
