use Rattle.table_rows.specs.Rows.{is_asked}
use Rattle.table_rows.proofs.has_document.Goals as goal

pub returns : goal.returns
unfolding is_asked
returns c = c.some_row.ensures
