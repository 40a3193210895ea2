use Rattle.xml_elements.proofs.Outcomes.{is_refused, rows_few, rows_there, is_delivered}
use Rattle.xml_elements.proofs.read_pieces.Goals as goal

pub returns-in_default : goal.returns-in_default
returns-in_default c = search is_refused

pub deliver-requires : goal.deliver-requires
deliver-requires c = (search rows_there, search rows_few)

pub returns : goal.returns
returns c = search is_delivered
