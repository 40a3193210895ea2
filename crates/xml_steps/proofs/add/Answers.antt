use Rattle.xml_steps.proofs.Steps.{row_fits, too_many, too_deep, room_left}
use mathlib.Core.Path.{refl}
use borrow.Author.Rules.{rules}
use Rattle.xml_steps.proofs.add.Goals as goal

pub returns-then-count-ge-ELEMENTS : goal.returns-then-count-ge-ELEMENTS
returns-then-count-ge-ELEMENTS c = (search too_many, refl)

pub returns-then-reader-ge-DEPTH : goal.returns-then-reader-ge-DEPTH
returns-then-reader-ge-DEPTH c = (search too_deep, refl)

pub put_row-requires : goal.put_row-requires
put_row-requires c = (search row_fits, search rules, search rules, search rules, search rules)

pub returns : goal.returns
returns c = (search room_left, search rules)
