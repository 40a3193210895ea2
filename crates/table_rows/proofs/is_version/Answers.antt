use Rattle.table_rows.proofs.Tests.{no_first, at_least}
use Rattle.table_rows.specs.Rows.{is_version}
use Rattle.table_rows.proofs.is_version.Goals as goal

pub returns-then-field_is : goal.returns-then-field_is
unfolding is_version
returns-then-field_is c = search at_least

pub returns-else-field_is : goal.returns-else-field_is
unfolding is_version
returns-else-field_is c = search no_first
