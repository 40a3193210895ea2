use Rattle.table_search.proofs.Asking.{end_fits, code_less, code_more, code_same}
use Rattle.table_search.proofs.compare_code.Goals as goal

pub overflow_add-at : goal.overflow_add-at
overflow_add-at c = search end_fits

pub returns-in-Less : goal.returns-in-Less
returns-in-Less c = search code_less

pub returns-in-Greater : goal.returns-in-Greater
returns-in-Greater c = search code_more

pub returns-in-Equal : goal.returns-in-Equal
returns-in-Equal c = search code_same
