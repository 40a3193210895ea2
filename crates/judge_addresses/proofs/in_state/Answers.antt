use Rattle.judge_addresses.proofs.Addresses.{state_said, state_missing}
use Rattle.judge_addresses.proofs.in_state.Goals as goal

pub returns-then-one_said : goal.returns-then-one_said
returns-then-one_said c = search state_said

pub returns : goal.returns
returns c = search state_missing
