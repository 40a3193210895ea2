use mathlib.Core.Path.{refl}
use native.Mathlib.Omega.{arith}
use borrow.Author.Rules.{rules}
use Rattle.xml_elements.proofs.Rows.{row_more, rows_all}
use Rattle.xml_elements.proofs.put_rows.Goals as goal

pub loop-k-init : goal.loop-k-init
loop-k-init c = (omega arith, refl, refl)

pub loop-k-preserved : goal.loop-k-preserved
loop-k-preserved c = (search rules, search rules, search row_more)

pub returns : goal.returns
returns c = search rows_all
