use Rattle.sort_compare.proofs.Skipping.{skipped}
use Rattle.sort_compare.proofs.fields.skip.Goals as goal

pub returns : goal.returns
returns c = search skipped
