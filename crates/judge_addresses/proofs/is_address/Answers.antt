use Rattle.judge_addresses.proofs.Addresses.{address_city, address_country, address_lines}
use borrow.Author.Tests.{not-true, not-false}
use Rattle.judge_addresses.proofs.is_address.Goals as goal

pub returns-then-not-one_said : goal.returns-then-not-one_said
returns-then-not-one_said c = search (address_city, not-true)

pub returns-then-not-one_said-2 : goal.returns-then-not-one_said-2
returns-then-not-one_said-2 c = search (address_country, not-true, not-false)

pub returns : goal.returns
returns c = search (address_lines, not-false)
