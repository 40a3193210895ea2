use Rattle.xml_pieces.proofs.Cases.{space_to_end, space_to_markup, space_to_text}
use Rattle.xml_pieces.proofs.only_space.Goals as goal

pub returns-then-j-s : goal.returns-then-j-s
returns-then-j-s c = search space_to_end

pub returns-then-byte-eq60 : goal.returns-then-byte-eq60
returns-then-byte-eq60 c = search space_to_markup

pub returns : goal.returns
returns c = search space_to_text
