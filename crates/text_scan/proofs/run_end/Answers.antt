use Rattle.text_scan.proofs.Lists.{run_goes, run_stops, run_ends}
use Rattle.text_scan.proofs.run_end.Goals as goal

pub loop-end-preserved : goal.loop-end-preserved
loop-end-preserved g c = search run_goes

pub returns-else-holds : goal.returns-else-holds
returns-else-holds g c = search run_stops

pub returns-after-loop-end : goal.returns-after-loop-end
returns-after-loop-end g c = search run_ends
