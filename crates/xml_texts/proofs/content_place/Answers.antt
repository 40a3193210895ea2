use Rattle.xml_texts.proofs.Texts.{no_content, content_ahead, content_whole, content_long}
use Rattle.xml_texts.proofs.content_place.Goals as goal

pub returns-in_default : goal.returns-in_default
returns-in_default c = search no_content

pub overflow_sub-e : goal.overflow_sub-e
overflow_sub-e c = search content_ahead

pub returns-then-e-a-le-VALUE : goal.returns-then-e-a-le-VALUE
returns-then-e-a-le-VALUE c = search content_whole

pub returns : goal.returns
returns c = search content_long
