use Rattle.table_lines.proofs.Runs.{tab_same}
use Rattle.table_lines.proofs.field_end.Goals as goal

pub returns : goal.returns
returns c = search tab_same
