use Rattle.xml_pieces.proofs.Cases.{a_comment, a_doctype, a_cdata, no_bang}
use Rattle.xml_pieces.proofs.bang.Goals as goal

pub returns-then-text_at : goal.returns-then-text_at
returns-then-text_at c = search a_comment

pub returns-then-text_at-2 : goal.returns-then-text_at-2
returns-then-text_at-2 c = search a_doctype

pub returns-then-text_at-3 : goal.returns-then-text_at-3
returns-then-text_at-3 c = search a_cdata

pub returns : goal.returns
returns c = search no_bang
