use Rattle.xml_pieces.proofs.Cases.{is_found, not_found}
use Rattle.xml_pieces.proofs.found_as.Goals as goal

pub returns-in-Some : goal.returns-in-Some
returns-in-Some c = search is_found

pub returns-in-None : goal.returns-in-None
returns-in-None c = search not_found
