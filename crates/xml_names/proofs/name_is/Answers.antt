use Rattle.xml_names.proofs.ElementNames.{name_behind, name_length, text_differs}
use Rattle.xml_names.proofs.name_is.Goals as goal

pub overflow_sub-result : goal.overflow_sub-result
overflow_sub-result c = search name_behind

pub returns-then-text_at : goal.returns-then-text_at
returns-then-text_at c = search name_length

pub returns : goal.returns
returns c = search text_differs
