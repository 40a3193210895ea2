use native.Mathlib.Omega.{arith}
use lib.ListN.{length-set}
use Rattle.xml_steps.proofs.Rows.{four_stored, four_length}
use Rattle.xml_steps.proofs.put_row.Goals as goal

pub bounds-rows-k-2 : goal.bounds-rows-k-2
bounds-rows-k-2 c = simp length-set (omega arith)

pub bounds-rows-k-3 : goal.bounds-rows-k-3
bounds-rows-k-3 c = simp length-set (omega arith)

pub bounds-rows-k-4 : goal.bounds-rows-k-4
bounds-rows-k-4 c = simp length-set (omega arith)

pub shape_of-rows : goal.shape_of-rows
shape_of-rows c = simp length-set

pub returns : goal.returns
returns c = search (four_stored, four_length)
