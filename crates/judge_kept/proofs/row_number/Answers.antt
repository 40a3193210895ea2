use Prim.Native.Nat.{◌+◌, ◌*◌}
use native.Mathlib.Omega.{arith}
use Rattle.judge_kept.proofs.Run.{row_read, row_past}
use borrow.Author.Rules.{rules}
use Rattle.judge_kept.proofs.row_number.Goals as goal

pub overflow_cast-result : goal.overflow_cast-result
overflow_cast-result c = omega (arith, c.type_inv.notes (4 * c.args.n + c.args.k))

pub returns-then-n-notes : goal.returns-then-n-notes
returns-then-n-notes c = (search row_read, omega (arith, c.type_inv.notes (4 * c.args.n + c.args.k)))

pub returns : goal.returns
returns c = (search row_past, search rules)
