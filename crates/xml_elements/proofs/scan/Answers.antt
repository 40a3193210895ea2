use Rattle.xml_elements.proofs.Spaces.{space_piece, of_part}
use Rattle.xml_elements.proofs.scan.Goals as goal

pub returns-then-byte-eq60 : goal.returns-then-byte-eq60
returns-then-byte-eq60 c = search space_piece

pub returns : goal.returns
returns c = search of_part
