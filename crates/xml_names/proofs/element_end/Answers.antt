use Rattle.xml_names.specs.ElementNames.{element_end}
use Rattle.xml_names.proofs.element_end.Goals as goal

pub returns : goal.returns
unfolding element_end
returns c = c.word_end.ensures
