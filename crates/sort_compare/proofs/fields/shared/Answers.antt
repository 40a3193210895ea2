use mathlib.Core.Path.{refl}
use native.Mathlib.Omega.{arith}
use borrow.Author.Rules.{rules}
use Rattle.sort_compare.specs.Units.{sharing}
use Rattle.sort_compare.proofs.Sharing.{shares_on}
use Rattle.sort_compare.proofs.fields.shared.Goals as goal

pub returns-then-byte : goal.returns-then-byte
unfolding sharing
returns-then-byte c = (omega arith, omega arith, refl)

pub loop-k-preserved : goal.loop-k-preserved
loop-k-preserved c = (search rules, search shares_on)
