use borrow.Author.Rules.{rules}
use Rattle.table_lines.specs.Blocks.{throughout}
use Rattle.table_lines.proofs.Blocks.{more, whole}
use Rattle.table_lines.proofs.throughout.Goals as goal

pub loop-k-init : goal.loop-k-init
unfolding throughout
loop-k-init g c = search rules

pub loop-k-preserved : goal.loop-k-preserved
loop-k-preserved g c = (search rules, search (more g.C.ByteClass.members))

pub returns : goal.returns
returns g c = search (whole g.C.ByteClass.members)
