use Rattle.xml_attributes.proofs.Pieces.{quote_before, quote_inside, no_name, no_value, no_quote, attribute_whole}
use Rattle.xml_attributes.proofs.attribute_at.Goals as goal

pub returns-then-n-at : goal.returns-then-n-at
returns-then-n-at c = search no_name

pub returns-in_default : goal.returns-in_default
returns-in_default c = search no_value

pub overflow_sub-v : goal.overflow_sub-v
overflow_sub-v c = search quote_before

pub bounds-s-v : goal.bounds-s-v
bounds-s-v c = search quote_inside

pub returns-in_default-value_end : goal.returns-in_default-value_end
returns-in_default-value_end c = search no_quote

pub returns : goal.returns
returns c = search attribute_whole
