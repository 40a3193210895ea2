use borrow.Author.Rules.{rules}
use Rattle.text_chars.specs.Blocks.{plains}
use Rattle.text_chars.proofs.Plain.{more, whole}
use Rattle.text_chars.proofs.plain_block.Goals as goal

pub loop-k-init : goal.loop-k-init
unfolding plains
loop-k-init c = search rules

pub loop-k-preserved : goal.loop-k-preserved
loop-k-preserved c = search more

pub returns : goal.returns
returns c = search whole
