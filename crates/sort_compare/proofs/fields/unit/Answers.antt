use Rattle.sort_compare.proofs.Parts.{unit_past, unit_end, unit_here}
use Rattle.sort_compare.proofs.fields.unit.Goals as goal

pub returns-then-t-k : goal.returns-then-t-k
returns-then-t-k c = search unit_past

pub returns-then-is_end : goal.returns-then-is_end
returns-then-is_end c = search unit_end

pub returns : goal.returns
returns c = search unit_here
