use Rattle.xml_values.proofs.Views.{shown_of}
use Rattle.xml_value_reader.proofs.Shown.{value_in_range, value_seen}
use borrow.Author.Rules.{rules}
use Rattle.xml_value_reader.proofs.value.Goals as goal

pub returns : goal.returns
returns c = shown_of _ _ _ _ c.shown.ensures (search value_in_range) _ _ _ (search rules) (search rules) (search value_seen)
