use Rattle.program_exports.proofs.Told.{merge_told}
use Rattle.program_exports.proofs.bd_merge.Goals as goal

pub returns : goal.returns
returns c = search merge_told
