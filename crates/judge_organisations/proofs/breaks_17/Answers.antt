use Rattle.judge_organisations.proofs.Names.{wrong_names, neither, said_name, empty_name}
use borrow.Author.Tests.{not-true}
use Rattle.judge_organisations.proofs.breaks_17.Goals as goal

pub returns-then-is_organisation : goal.returns-then-is_organisation
returns-then-is_organisation c = search wrong_names

pub returns-then-not-is_role : goal.returns-then-not-is_role
returns-then-not-is_role c = search (neither, not-true)

pub returns-then-is_said : goal.returns-then-is_said
returns-then-is_said c = search said_name

pub returns : goal.returns
returns c = search empty_name
