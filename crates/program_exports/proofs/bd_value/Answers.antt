use Rattle.program_exports.proofs.Told.{value_told}
use Rattle.program_exports.proofs.bd_value.Goals as goal

pub returns : goal.returns
returns c = search value_told
