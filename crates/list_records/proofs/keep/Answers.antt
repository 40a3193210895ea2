use Rattle.list_records.proofs.Keeping.{not_fitting, keep_none, keep_next, keep_fits, keep_over}
use Rattle.list_records.proofs.keep.Goals as goal

pub returns-then-not-fits : goal.returns-then-not-fits
returns-then-not-fits c = (search not_fitting, search keep_none)

pub loop-i-preserved : goal.loop-i-preserved
loop-i-preserved c = search keep_next

pub returns : goal.returns
returns c = (search keep_fits, search keep_over)
