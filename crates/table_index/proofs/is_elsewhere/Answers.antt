use Rattle.table_index.specs.Indexed.{keeps_row}
use Rattle.table_rows.proofs.Tests.{no_first}
use Rattle.table_index.proofs.Lookups.{but}
use Rattle.table_index.proofs.is_elsewhere.Goals as goal

pub returns-then-field_is : goal.returns-then-field_is
unfolding keeps_row
returns-then-field_is c = search but

pub returns-else-field_is : goal.returns-else-field_is
unfolding keeps_row
returns-else-field_is c = search no_first
