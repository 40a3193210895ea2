use Rattle.xml_markup.proofs.Instructions.{data_none, data_space, data_at_once, data_malformed}
use Rattle.xml_markup.proofs.data_end.Goals as goal

pub returns-then-s-n : goal.returns-then-s-n
returns-then-s-n c = search data_none

pub returns-then-is_space : goal.returns-then-is_space
returns-then-is_space c = search data_space

pub returns-then-text_at : goal.returns-then-text_at
returns-then-text_at c = search data_at_once

pub returns : goal.returns
returns c = search data_malformed
