use Rattle.judge_header.proofs.Holds.{typed_registration, typed_request}
use Rattle.judge_header.proofs.typed_code.Goals as goal

pub returns-then-code_is : goal.returns-then-code_is
returns-then-code_is c = search typed_registration

pub returns : goal.returns
returns c = search typed_request
