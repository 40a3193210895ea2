use Rattle.judge_registrations.proofs.Agents.{other_36, abroad_36, agent_36, import_36, neither_36}
use borrow.Author.Tests.{not-true, not-false}
use Rattle.judge_registrations.proofs.breaks_36.Goals as goal

pub returns-then-not-is_role : goal.returns-then-not-is_role
returns-then-not-is_role c = search (other_36, not-true)

pub returns-then-not-in_usa : goal.returns-then-not-in_usa
returns-then-not-in_usa c = search (abroad_36, not-true, not-false)

pub returns-then-not-none : goal.returns-then-not-none
returns-then-not-none c = search (agent_36, not-true, not-false)

pub returns-then-not-none-2 : goal.returns-then-not-none-2
returns-then-not-none-2 c = search (import_36, not-true, not-false)

pub returns : goal.returns
returns c = search (neither_36, not-false)
