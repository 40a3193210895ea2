use Rattle.xml_pieces.proofs.Cases.{by_bang, by_question, by_end, by_start}
use Rattle.xml_pieces.proofs.markup_piece.Goals as goal

pub returns-then-text_at : goal.returns-then-text_at
returns-then-text_at c = search by_bang

pub returns-then-text_at-2 : goal.returns-then-text_at-2
returns-then-text_at-2 c = search by_question

pub returns-then-text_at-3 : goal.returns-then-text_at-3
returns-then-text_at-3 c = search by_end

pub returns : goal.returns
returns c = search by_start
