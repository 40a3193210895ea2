use Rattle.xml_names.specs.Names.{name_end}
use Rattle.xml_names.proofs.name_end.Goals as goal

pub returns : goal.returns
unfolding name_end
returns c = c.word_end.ensures
