use mathlib.Core.Path.{refl, sym}
use native.Mathlib.Omega.{arith}
use lib.ListN.{get_or-eq_default}
use Rattle.text_scan.proofs.byte.Goals as goal

pub overflow_cast-result : goal.overflow_cast-result
overflow_cast-result c = omega (arith, c.type_inv.s c.args.k)

pub returns-then-k-s : goal.returns-then-k-s
returns-then-k-s c = (refl, omega (arith, c.type_inv.s c.args.k))

pub returns : goal.returns
returns c = (sym (get_or-eq_default c.args.s.now 0 c.if-k-s.false), omega arith)
