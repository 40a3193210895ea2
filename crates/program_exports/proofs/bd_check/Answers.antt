use Rattle.program_exports.proofs.Told.{check_told}
use Rattle.program_exports.proofs.bd_check.Goals as goal

pub returns : goal.returns
returns c = search check_told
