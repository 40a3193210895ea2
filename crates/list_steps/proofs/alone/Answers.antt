use Rattle.list_steps.proofs.Steps.{alone_fault, alone_leave, alone_keep}
use Rattle.list_steps.proofs.alone.Goals as goal

pub returns-in-DocumentOnly : goal.returns-in-DocumentOnly
returns-in-DocumentOnly c = search alone_fault

pub returns-in-Both : goal.returns-in-Both
returns-in-Both c = search alone_leave

pub returns-in-Either : goal.returns-in-Either
returns-in-Either c = search alone_keep
