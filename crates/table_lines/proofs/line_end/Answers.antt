use Rattle.table_lines.proofs.Runs.{line_same}
use Rattle.table_lines.proofs.line_end.Goals as goal

pub returns : goal.returns
returns c = search line_same
