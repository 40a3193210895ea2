use Rattle.table_index.proofs.Runs.{arranged_by}
use Rattle.table_index.proofs.arrange.Goals as goal

pub returns-then-run-le2048 : goal.returns-then-run-le2048
returns-then-run-le2048 c = search arranged_by

pub returns : goal.returns
returns c = search arranged_by
