use Rattle.xml_elements.proofs.Outcomes.{too_small, is_filled}
use Rattle.xml_elements.proofs.deliver.Goals as goal

pub returns-then-elements-n : goal.returns-then-elements-n
returns-then-elements-n c = search too_small

pub returns : goal.returns
returns c = search is_filled
