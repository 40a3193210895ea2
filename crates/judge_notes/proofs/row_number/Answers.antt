use Prim.Native.Nat.{◌+◌, ◌*◌}
use mathlib.Core.Path.{refl}
use native.Mathlib.Omega.{arith}
use Rattle.judge_notes.proofs.row_number.Goals as goal

pub overflow_cast-result : goal.overflow_cast-result
overflow_cast-result c = omega (arith, c.type_inv.elements (4 * c.args.n + c.args.k))

pub returns : goal.returns
returns c = (refl, omega (arith, c.type_inv.elements (4 * c.args.n + c.args.k)))
