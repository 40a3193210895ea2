use Rattle.table_lines.proofs.Blocks.{run_block}
use Rattle.table_lines.proofs.pass.Goals as goal

pub loop-i-preserved : goal.loop-i-preserved
loop-i-preserved g c = search (run_block g.C.ByteClass.members)
