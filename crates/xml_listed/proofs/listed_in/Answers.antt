use Rattle.xml_listed.proofs.Temp.{all_four}
use Rattle.xml_listed.proofs.listed_in.Goals as goal

pub returns : goal.returns
returns c = search all_four
