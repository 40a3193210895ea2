use mathlib.Core.Path.{refl}
use native.Mathlib.Omega.{arith}
use borrow.Author.Rules.{rules}
use Rattle.sort_compare.specs.Units.{sharing}
use Rattle.sort_compare.proofs.Sharing.{block_joined}
use Rattle.sort_compare.proofs.fields.pass_shared.Goals as goal

pub loop-k-init : goal.loop-k-init
unfolding sharing
loop-k-init c = (omega arith, refl)

pub shares_block-requires : goal.shares_block-requires
shares_block-requires c = (search rules, search rules)

pub loop-k-preserved : goal.loop-k-preserved
loop-k-preserved c = (search rules, search block_joined)
