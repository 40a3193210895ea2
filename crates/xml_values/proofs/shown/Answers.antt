use Rattle.xml_values.proofs.Views.{same_range, same_shown}
use Rattle.xml_values.proofs.shown.Goals as goal

pub either-requires : goal.either-requires
either-requires c = search same_range

pub returns : goal.returns
returns c = search same_shown
