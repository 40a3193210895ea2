use borrow.Author.Tests.{not-true, not-false}
use Rattle.judge_addresses.proofs.Addresses.{other_25, abroad_25, state_25, another_25, address_25}
use Rattle.judge_addresses.proofs.breaks_25.Goals as goal

pub returns-then-not-is_role : goal.returns-then-not-is_role
returns-then-not-is_role c = search (other_25, not-true)

pub returns-then-not-is_usa : goal.returns-then-not-is_usa
returns-then-not-is_usa c = search (abroad_25, not-true, not-false)

pub returns-then-in_state : goal.returns-then-in_state
returns-then-in_state c = search (state_25, not-false)

pub returns-then-not-is_only_kid : goal.returns-then-not-is_only_kid
returns-then-not-is_only_kid c = search (another_25, not-true, not-false)

pub returns : goal.returns
returns c = search (address_25, not-false)
