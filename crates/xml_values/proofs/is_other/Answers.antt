use Rattle.xml_values.proofs.Attributes.{first_listed, second_listed, third_listed, none_listed, no_value}
use Rattle.xml_values.proofs.is_other.Goals as goal

pub returns-then-is_named : goal.returns-then-is_named
returns-then-is_named c = search first_listed

pub returns-then-is_named-2 : goal.returns-then-is_named-2
returns-then-is_named-2 c = search second_listed

pub returns-then-is_named-3 : goal.returns-then-is_named-3
returns-then-is_named-3 c = search third_listed

pub returns-then-valued : goal.returns-then-valued
returns-then-valued c = search none_listed

pub returns : goal.returns
returns c = search no_value
