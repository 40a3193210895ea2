use Rattle.xml_values.proofs.Views.{shown_of, attribute_in_range, attribute_seen}
use borrow.Author.Rules.{rules}
use Rattle.xml_values.proofs.attribute.Goals as goal

pub returns : goal.returns
returns c = shown_of _ _ _ _ c.shown.ensures (search attribute_in_range) _ _ _ (search rules) (search rules) (search attribute_seen)
