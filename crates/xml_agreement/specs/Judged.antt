-- What is judged of an element that begins at `first`: the attribute of this name, or, for an empty name, the text.
-- Assumes nothing.
use Rattle.std.specs.Prelude.{ℕ, List, [], ◌∷◌}
use Rattle.xml_values.specs.Attributes.{attribute_of}
use Rattle.xml_texts.specs.Texts.{text_of}

abbrev pub judged_of : List ℕ → ℕ → List ℕ → List ℕ
judged_of document first [] = text_of document first
judged_of document first (c ∷ name) = attribute_of document first (c ∷ name)
