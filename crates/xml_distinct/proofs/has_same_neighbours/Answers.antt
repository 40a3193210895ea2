use native.Mathlib.Omega.{arith}
use Rattle.xml_distinct.proofs.Neighbours.{ask_starts, ask_same, ask_other, ask_ends}
use Rattle.xml_distinct.proofs.has_same_neighbours.Goals as goal

pub loop-i-init : goal.loop-i-init
loop-i-init c = (omega arith, search ask_starts)

pub returns-then-is_eq : goal.returns-then-is_eq
returns-then-is_eq c = search ask_same

pub loop-i-preserved : goal.loop-i-preserved
loop-i-preserved c = (omega arith, search ask_other)

pub returns : goal.returns
returns c = search ask_ends
