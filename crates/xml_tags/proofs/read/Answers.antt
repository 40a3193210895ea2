use mathlib.Core.Path.{refl}
use native.Mathlib.Omega.{arith}
use borrow.Author.Rules.{rules}
use Rattle.xml_attributes.proofs.Parts.{read_name_ahead, read_closed, read_fits, read_falls}
use Rattle.xml_tags.proofs.Reading.{brings_out, brings_end, brings_more}
use Rattle.xml_attributes.proofs.Keeping.{keeps_out, keeps_end, keeps_more, length_more, count_more}
use Rattle.xml_tags.proofs.read.Goals as goal

pub loop-i-init : goal.loop-i-init
loop-i-init c = (refl, refl, refl, omega arith)

pub overflow_sub-a : goal.overflow_sub-a
overflow_sub-a c = search read_name_ahead

pub overflow_sub-a-in-Read : goal.overflow_sub-a-in-Read
overflow_sub-a-in-Read c = search read_closed

pub overflow_add-i : goal.overflow_add-i
overflow_add-i c = search (read_fits, rules)

pub loop-i-smaller : goal.loop-i-smaller
loop-i-smaller c = search read_falls

pub loop-i-preserved : goal.loop-i-preserved
loop-i-preserved c = search (brings_more, keeps_more, length_more, count_more)

pub returns-in-Ended : goal.returns-in-Ended
returns-in-Ended c = search (brings_end, keeps_end)

pub returns : goal.returns
returns c = search (brings_out, keeps_out)
