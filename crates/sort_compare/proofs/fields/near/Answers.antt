use mathlib.Core.Path.{refl}
use native.Mathlib.Omega.{arith}
use borrow.Author.Rules.{rules}
use Rattle.sort_compare.specs.Units.{sharing, tabs_in}
use Rattle.sort_compare.proofs.Sharing.{shares_above, tab_above}
use Rattle.sort_compare.proofs.fields.near.Goals as goal

pub loop-k-init : goal.loop-k-init
unfolding sharing tabs_in
loop-k-init c = (omega arith, refl, refl)

pub loop-k-preserved : goal.loop-k-preserved
loop-k-preserved c = (search rules, search shares_above, search tab_above)
