use Rattle.xml_attributes.proofs.Some.{again_part}
use Rattle.xml_repeats.proofs.named_behind.Goals as goal

pub returns : goal.returns
returns c = search again_part
