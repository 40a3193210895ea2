use Rattle.xml_names.proofs.Names.{name_ahead}
use Rattle.xml_names.proofs.ElementNames.{as_long, of_other_length}
use Rattle.xml_names.proofs.is_named.Goals as goal

pub overflow_sub-n : goal.overflow_sub-n
overflow_sub-n c = search name_ahead

pub returns-then-n-at : goal.returns-then-n-at
returns-then-n-at c = search as_long

pub returns : goal.returns
returns c = search of_other_length
