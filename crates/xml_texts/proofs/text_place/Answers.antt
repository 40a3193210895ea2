use Rattle.xml_texts.proofs.Texts.{text_behind_lem, text_empty, text_malformed}
use Rattle.xml_texts.proofs.text_place.Goals as goal

pub returns-in-Start : goal.returns-in-Start
returns-in-Start c = search text_behind_lem

pub returns-in-Empty : goal.returns-in-Empty
returns-in-Empty c = search text_empty

pub returns-in_default : goal.returns-in_default
returns-in_default c = search text_malformed
