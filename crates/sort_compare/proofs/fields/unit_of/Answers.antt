use Rattle.sort_compare.proofs.Parts.{unit_any, unit_plain}
use Rattle.sort_compare.proofs.fields.unit_of.Goals.{then-any, else-any}
use Rattle.sort_compare.proofs.fields.unit_of.Goals as goal

pub returns : goal.returns
returns c = elim c.if-any.branch [ then-any w ↦ search unit_any | else-any w ↦ search unit_plain ]
