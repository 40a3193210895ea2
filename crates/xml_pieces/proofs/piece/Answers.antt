use Rattle.xml_pieces.proofs.Cases.{by_markup, by_text}
use Rattle.xml_pieces.proofs.piece.Goals as goal

pub returns-then-byte-eq60 : goal.returns-then-byte-eq60
returns-then-byte-eq60 c = search by_markup

pub returns : goal.returns
returns c = search by_text
