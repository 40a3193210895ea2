use Rattle.xml_pieces.proofs.Cases.{is_over, is_refusing}
use Rattle.xml_pieces.proofs.instruction.Goals as goal

pub returns-in-Ok : goal.returns-in-Ok
returns-in-Ok c = search is_over

pub returns-in-Err : goal.returns-in-Err
returns-in-Err c = search is_refusing
