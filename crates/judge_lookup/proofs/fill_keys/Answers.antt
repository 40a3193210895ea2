use Rattle.judge_lookup.proofs.Laws.{keys_of_type}
use Rattle.judge_paths.specs.declared.DocumentType.TheVariants.{Neither, Registration, Request}
use borrow.Author.Rules.{rules}
use Rattle.judge_lookup.proofs.fill_keys.Goals as goal

pub returns-in-Neither : goal.returns-in-Neither
returns-in-Neither c = (search (keys_of_type Neither), search rules)

pub returns-in-Registration : goal.returns-in-Registration
returns-in-Registration c = (search (keys_of_type Registration), search rules)

pub returns-in-Request : goal.returns-in-Request
returns-in-Request c = (search (keys_of_type Request), search rules)
