use Rattle.table_rows.proofs.Tests.{no_first, all_two}
use Rattle.table_sets.specs.SetKeys.{is_of_set}
use Rattle.table_sets.proofs.is_of_set.Goals as goal

pub returns-then-field_is : goal.returns-then-field_is
unfolding is_of_set
returns-then-field_is c = search all_two

pub returns-else-field_is : goal.returns-else-field_is
unfolding is_of_set
returns-else-field_is c = search no_first
