use Prim.Native.Nat.{◌+◌, ◌*◌, ◌/◌}
use native.Mathlib.Omega.{arith}
use lib.ListN.{length}
use Rattle.judge_kept.proofs.Run.{kept_read, kept_past}
use Rattle.judge_kept.proofs.kept_number.Goals as goal

pub overflow_cast-result : goal.overflow_cast-result
overflow_cast-result c = omega (arith, c.type_inv.notes (4 * (length c.args.notes.now / 13) + 9 * c.args.n + c.args.i))

pub returns-then-n-count : goal.returns-then-n-count
returns-then-n-count c = search kept_read

pub returns : goal.returns
returns c = search kept_past
