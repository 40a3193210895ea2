use Rattle.sort_compare.proofs.Parts.{next_tab, next_other, next_past}
use Rattle.sort_compare.proofs.fields.next_field.Goals.{else-i-s-via-then-i-s+else-s-i-eq9, else-i-s-via-else-i-s}
use Rattle.sort_compare.proofs.fields.next_field.Goals as goal

pub returns-then-s-i-eq9 : goal.returns-then-s-i-eq9
returns-then-s-i-eq9 c = search next_tab

pub returns : goal.returns
returns c = elim c.else-i-s.branch [ else-i-s-via-then-i-s+else-s-i-eq9 w ↦ search next_other | else-i-s-via-else-i-s w ↦ search next_past ]
