use Rattle.xml_steps.proofs.Steps.{with_children, childless}
use Rattle.xml_steps.proofs.content_fits.Goals as goal

pub returns-then-top-reader : goal.returns-then-top-reader
returns-then-top-reader c = search with_children

pub returns : goal.returns
returns c = search childless
