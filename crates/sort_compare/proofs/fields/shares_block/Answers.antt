use borrow.Author.Rules.{rules}
use Rattle.sort_compare.specs.Units.{sharing}
use Rattle.sort_compare.proofs.Sharing.{block_more, block_whole}
use Rattle.sort_compare.proofs.fields.shares_block.Goals as goal

pub loop-k-init : goal.loop-k-init
unfolding sharing
loop-k-init c = search rules

pub loop-k-preserved : goal.loop-k-preserved
loop-k-preserved c = (search rules, search block_more)

pub returns : goal.returns
returns c = search block_whole
