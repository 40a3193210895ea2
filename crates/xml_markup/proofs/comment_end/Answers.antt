use Rattle.text_scan.proofs.Tests.{yes, no}
use Rattle.xml_markup.proofs.Comments.{comment_opens, comment_fits, comment_none, comment_unfinished, comment_other, comment_hyphen, comment_closes, comment_malformed}
use Rattle.xml_markup.proofs.comment_end.Goals as goal

pub overflow_step-i : goal.overflow_step-i
overflow_step-i c = search (comment_fits, yes)

pub loop-i-init : goal.loop-i-init
loop-i-init c = search (comment_opens, yes)

pub loop-i-preserved-then-s-i-ne45 : goal.loop-i-preserved-then-s-i-ne45
loop-i-preserved-then-s-i-ne45 c = search comment_other

pub loop-i-preserved : goal.loop-i-preserved
loop-i-preserved c = search (comment_hyphen _ _ _ c.loop-i.invariant)

pub returns-then-byte-eq62 : goal.returns-then-byte-eq62
returns-then-byte-eq62 c = search (comment_closes _ _ _ c.loop-i.invariant)

pub returns-in-loop-i : goal.returns-in-loop-i
returns-in-loop-i c = search (comment_malformed _ _ _ c.loop-i.invariant)

pub returns-then-text_at : goal.returns-then-text_at
returns-then-text_at c = search comment_unfinished

pub returns : goal.returns
returns c = search (comment_none, no)
