use Rattle.table_search.proofs.Asking.{value_compared}
use Rattle.table_search.proofs.compare_value.Goals as goal

pub returns : goal.returns
returns c = search value_compared
