use Rattle.xml_elements.proofs.Outcomes.{refused_piece, no_refused_piece}
use Rattle.xml_elements.proofs.refusal.Goals as goal

pub returns-in-Piece : goal.returns-in-Piece
returns-in-Piece c = search no_refused_piece

pub returns-in-Refused : goal.returns-in-Refused
returns-in-Refused c = search refused_piece
