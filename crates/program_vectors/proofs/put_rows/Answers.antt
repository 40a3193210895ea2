use borrow.Author.Rules.{rules}
use mathlib.Core.Path.{refl}
use native.Mathlib.Omega.{arith}
use Rattle.program_vectors.proofs.Rooms.{room_next, counts}
use Rattle.program_vectors.proofs.put_rows.Goals as goal

pub loop-k-init : goal.loop-k-init
loop-k-init c = (omega arith, refl, omega arith)

pub put_row-next-requires : goal.put_row-next-requires
put_row-next-requires c = (omega arith, omega arith)

pub loop-k-preserved : goal.loop-k-preserved
loop-k-preserved c = (omega arith, search rules, search room_next)

pub returns : goal.returns
returns c = counts _ _ (omega arith)
