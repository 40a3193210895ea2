use Rattle.judge_answers.proofs.Asked.{asked_of_type}
use Rattle.judge_answers.proofs.Runs.{served_of_type}
use Rattle.judge_paths.specs.declared.DocumentType.TheVariants.{Neither, Registration, Request}
use Rattle.judge_answers.proofs.has_key_elsewhere.Goals as goal

pub has_key_elsewhere-requires : goal.has_key_elsewhere-requires
has_key_elsewhere-requires c = search (served_of_type Neither)

pub has_key_elsewhere-requires-in-Registration : goal.has_key_elsewhere-requires-in-Registration
has_key_elsewhere-requires-in-Registration c = search (served_of_type Registration)

pub has_key_elsewhere-requires-in-Request : goal.has_key_elsewhere-requires-in-Request
has_key_elsewhere-requires-in-Request c = search (served_of_type Request)

pub returns-in-Neither : goal.returns-in-Neither
returns-in-Neither c = search asked_of_type

pub returns-in-Registration : goal.returns-in-Registration
returns-in-Registration c = search asked_of_type

pub returns-in-Request : goal.returns-in-Request
returns-in-Request c = search asked_of_type
