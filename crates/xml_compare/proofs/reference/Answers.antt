use Rattle.xml_compare.proofs.Compared.{no_reference}
use Rattle.xml_compare.proofs.reference.Goals as goal

pub returns-then-raw-i-ne38 : goal.returns-then-raw-i-ne38
returns-then-raw-i-ne38 c = search no_reference
