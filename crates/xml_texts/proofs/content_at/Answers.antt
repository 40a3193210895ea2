use Rattle.xml_texts.proofs.Texts.{is_content}
use Rattle.xml_texts.proofs.Child.{child_other}
use Rattle.xml_texts.proofs.content_at.Goals as goal

pub returns-then-is_child : goal.returns-then-is_child
returns-then-is_child c = search child_other

pub returns : goal.returns
returns c = search is_content
