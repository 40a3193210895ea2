use Rattle.judge_registrations.proofs.Agents.{other_35, usa_35, agent_35, address_35}
use borrow.Author.Tests.{not-true, not-false}
use Rattle.judge_registrations.proofs.breaks_35.Goals as goal

pub returns-then-not-is_role : goal.returns-then-not-is_role
returns-then-not-is_role c = search (other_35, not-true)

pub returns-then-in_usa : goal.returns-then-in_usa
returns-then-in_usa c = search (usa_35, not-false)

pub returns-then-not-none : goal.returns-then-not-none
returns-then-not-none c = search (agent_35, not-true, not-false)

pub returns : goal.returns
returns c = search (address_35, not-false)
