use mathlib.Core.Path.{refl}
use native.Mathlib.Omega.{arith}
use borrow.Author.Rules.{rules}
use Rattle.sort_compare.specs.Units.{tabs_in}
use Rattle.sort_compare.proofs.Sharing.{tabs_more, tabs_same, tabs_whole}
use Rattle.sort_compare.proofs.fields.tabs.Goals.{then-s-i-eq9, else-s-i-eq9}
use Rattle.sort_compare.proofs.fields.tabs.Goals as goal

pub loop-k-init : goal.loop-k-init
unfolding tabs_in
loop-k-init c = (omega arith, omega arith, refl)

pub loop-k-preserved : goal.loop-k-preserved
loop-k-preserved c =
    elim c.if-s-i-eq9.branch [
      | then-s-i-eq9 w ↦ (search rules, search rules, search tabs_more)
      | else-s-i-eq9 w ↦ (search rules, search rules, search tabs_same)
    ]

pub returns : goal.returns
returns c = search tabs_whole
