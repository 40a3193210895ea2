use Rattle.xml_value_reader.proofs.Shown.{not_sound, not_opened, no_content, one_element}
use Rattle.xml_value_reader.proofs.is_element.Goals as goal

pub returns-then-first_bad-r : goal.returns-then-first_bad-r
returns-then-first_bad-r c = search not_sound

pub returns-in_default : goal.returns-in_default
returns-in_default c = search no_content

pub returns-then-is_err : goal.returns-then-is_err
returns-then-is_err c = search not_opened

pub returns : goal.returns
returns c = search one_element
