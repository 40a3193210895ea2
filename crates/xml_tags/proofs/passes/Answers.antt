use Rattle.xml_tags.proofs.Reading.{name_passes, value_passes}
use Rattle.xml_tags.proofs.passes.Goals as goal

pub returns-then-name-gt-NAME : goal.returns-then-name-gt-NAME
returns-then-name-gt-NAME c = search name_passes

pub returns : goal.returns
returns c = search value_passes
