use Rattle.sort_compare.proofs.Sharing.{other_told}
use Rattle.sort_compare.proofs.fields.compare_other.Goals as goal

pub returns-then-x-y : goal.returns-then-x-y
returns-then-x-y c = search other_told
