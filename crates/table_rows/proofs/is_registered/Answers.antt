use Rattle.table_rows.proofs.Tests.{no_first, all_two}
use Rattle.table_rows.specs.Rows.{is_registered}
use Rattle.table_rows.proofs.is_registered.Goals as goal

pub returns-then-field_is : goal.returns-then-field_is
unfolding is_registered
returns-then-field_is c = search all_two

pub returns-else-field_is : goal.returns-else-field_is
unfolding is_registered
returns-else-field_is c = search no_first
