use Rattle.sort_compare.proofs.Sharing.{near_asked}
use Rattle.sort_compare.proofs.fields.compare_rows.Goals as goal

pub returns : goal.returns
returns c = search near_asked
