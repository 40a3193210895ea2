use Rattle.judge_registrations.proofs.Agents.{usa_nowhere, usa_there}
use Rattle.judge_registrations.proofs.in_usa.Goals as goal

pub returns-in_default : goal.returns-in_default
returns-in_default c = search usa_nowhere

pub returns : goal.returns
returns c = search usa_there
