use Rattle.xml_attributes.proofs.Keeping.{keep_past}
use Rattle.xml_repeats.proofs.keep_place.Goals as goal

pub returns-then-starts-k : goal.returns-then-starts-k
returns-then-starts-k c = search keep_past
