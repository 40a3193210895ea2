use Rattle.judge_header.proofs.Holds.{no_type, registration_is, request_is, neither_is}
use Rattle.judge_header.proofs.type_of.Goals as goal

pub returns-in_default : goal.returns-in_default
returns-in_default c = search no_type

pub returns-then-code_is : goal.returns-then-code_is
returns-then-code_is c = search registration_is

pub returns-then-code_is-2 : goal.returns-then-code_is-2
returns-then-code_is-2 c = search request_is

pub returns : goal.returns
returns c = search neither_is
