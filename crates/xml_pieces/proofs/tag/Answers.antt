use Rattle.xml_pieces.proofs.Cases.{is_start, is_empty, is_malformed}
use Rattle.xml_pieces.proofs.tag.Goals as goal

pub returns-in-Start : goal.returns-in-Start
returns-in-Start c = search is_start

pub returns-in-Empty : goal.returns-in-Empty
returns-in-Empty c = search is_empty

pub returns-in-Err : goal.returns-in-Err
returns-in-Err c = search is_malformed
