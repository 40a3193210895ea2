use Rattle.xml_tags.proofs.Judged.{closes_told}
use Rattle.xml_tags.proofs.closes.Goals as goal

pub returns : goal.returns
returns c = search closes_told
