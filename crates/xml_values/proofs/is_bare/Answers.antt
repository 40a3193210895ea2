use Rattle.xml_values.proofs.Unlisted.{bare_byte}
use Rattle.xml_values.proofs.is_bare.Goals as goal

pub returns : goal.returns
returns c = search bare_byte
