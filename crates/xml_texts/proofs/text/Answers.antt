use Rattle.xml_values.proofs.Views.{shown_of}
use Rattle.xml_texts.proofs.Texts.{text_in_range, text_seen}
use borrow.Author.Rules.{rules}
use Rattle.xml_texts.proofs.text.Goals as goal

pub returns : goal.returns
returns c = shown_of _ _ _ _ c.shown.ensures (search text_in_range) _ _ _ (search rules) (search rules) (search text_seen)
