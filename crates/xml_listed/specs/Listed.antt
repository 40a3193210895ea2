-- The values of three attributes of a tag, where they say the bytes there, and whether it has another attribute that is not empty.
-- Assumes nothing.
use Rattle.std.specs.Prelude.{ℕ, List, [], ◌∷◌}
use Rattle.xml_values.specs.Attributes.{attribute_place, has_other}
use Rattle.xml_values.specs.Views.{plain_of}
use Rattle.xml_listed.specs.declared.Listed.{Listed}

unfoldable pub listed_in : List ℕ → ℕ → List ℕ → List ℕ → List ℕ → Listed
listed_in s first x y z =
    record {
      x = plain_of s (attribute_place s first x);
      y = plain_of s (attribute_place s first y);
      z = plain_of s (attribute_place s first z);
      other = has_other s first (x ∷ y ∷ z ∷ []);
    }
