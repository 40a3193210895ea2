use borrow.Author.Rules.{rules}
use Rattle.text_chars.proofs.Walked.{marked, starts, passes, bad, resumes, ends}
use Rattle.text_chars.proofs.first_bad.Goals as goal

pub returns-then-text_at : goal.returns-then-text_at
returns-then-text_at c = search marked

pub loop-i-init : goal.loop-i-init
loop-i-init c = search starts

pub loop-i-preserved-then-plain_block : goal.loop-i-preserved-then-plain_block
loop-i-preserved-then-plain_block c = passes _ _ _ 32 _ c.plain_block.ensures (search rules) (search rules) (search rules) (search rules)

pub returns-then-i-end : goal.returns-then-i-end
returns-then-i-end c = search bad

pub loop-i-preserved : goal.loop-i-preserved
loop-i-preserved c = search resumes

pub returns : goal.returns
returns c = search ends
