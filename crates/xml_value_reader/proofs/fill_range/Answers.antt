use Rattle.xml_value_reader.proofs.Shown.{text_shown, no_text, attribute_shown, no_attribute}
use Rattle.xml_value_reader.proofs.fill_range.Goals as goal

pub returns-then-is_element : goal.returns-then-is_element
returns-then-is_element c = search text_shown

pub returns-then-is_empty : goal.returns-then-is_empty
returns-then-is_empty c = search no_text

pub returns-then-is_opened : goal.returns-then-is_opened
returns-then-is_opened c = search attribute_shown

pub returns : goal.returns
returns c = search no_attribute
