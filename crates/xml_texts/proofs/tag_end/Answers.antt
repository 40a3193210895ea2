use borrow.Author.Rules.{rules}
use Rattle.xml_attributes.proofs.Parts.{read_fits, read_falls}
use Rattle.xml_texts.proofs.Texts.{tag_ends_start, tag_out, tag_ended, tag_next}
use Rattle.xml_texts.proofs.tag_end.Goals as goal

pub loop-i-init : goal.loop-i-init
loop-i-init c = search tag_ends_start

pub overflow_add-i : goal.overflow_add-i
overflow_add-i c = search (read_fits, rules)

pub loop-i-smaller : goal.loop-i-smaller
loop-i-smaller c = search read_falls

pub loop-i-preserved : goal.loop-i-preserved
loop-i-preserved c = search tag_next

pub returns-in-Ended : goal.returns-in-Ended
returns-in-Ended c = search tag_ended

pub returns : goal.returns
returns c = search tag_out
