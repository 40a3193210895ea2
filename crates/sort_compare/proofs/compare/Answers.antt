use Rattle.sort_compare.proofs.Comparing.{compared_by}
use Rattle.sort_compare.proofs.compare.Goals as goal

pub returns-in-Name : goal.returns-in-Name
returns-in-Name c = search compared_by

pub returns-in-Code : goal.returns-in-Code
returns-in-Code c = search compared_by

pub returns-in-Register : goal.returns-in-Register
returns-in-Register c = search compared_by

pub returns-in-Key : goal.returns-in-Key
returns-in-Key c = search compared_by
