use Rattle.list_merge.proofs.Records.{bad_starts, bad_here, bad_next, bad_over}
use Rattle.list_merge.proofs.first_bad.Goals as goal

pub loop-n-init : goal.loop-n-init
loop-n-init c = search bad_starts

pub returns-then-not-follows : goal.returns-then-not-follows
returns-then-not-follows c = search bad_here

pub loop-n-preserved : goal.loop-n-preserved
loop-n-preserved c = search bad_next

pub returns : goal.returns
returns c = search bad_over
