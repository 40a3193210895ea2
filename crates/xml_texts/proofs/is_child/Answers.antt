use Rattle.xml_texts.proofs.Child.{no_markup, bang_no_child, question_no_child, child_by_slash}
use Rattle.xml_texts.proofs.is_child.Goals as goal

pub returns-then-byte-ne60 : goal.returns-then-byte-ne60
returns-then-byte-ne60 c = search no_markup

pub returns-then-text_at : goal.returns-then-text_at
returns-then-text_at c = search bang_no_child

pub returns-then-text_at-2 : goal.returns-then-text_at-2
returns-then-text_at-2 c = search question_no_child

pub returns : goal.returns
returns c = search child_by_slash
