-- What the contract of the private function `has_same_neighbours` speaks of, and no definition of document 01.
-- Assumes nothing.
use Rattle.std.specs.Prelude.{ℕ, Bool, false, List, [], ◌∷◌}
use Rattle.text_scan.specs.Choice.{◌or◌}
use Rattle.xml_names.specs.Names.{name_at}
use Rattle.xml_distinct.specs.Repeats.{is_called}

-- two neighbours have the same name, where b stands before the others
unfoldable pub neighbours_from : List ℕ → ℕ → List ℕ → Bool
neighbours_from s b [] = false
neighbours_from s b (c ∷ cs) = is_called s (name_at s b) c or neighbours_from s c cs

unfoldable pub neighbours : List ℕ → List ℕ → Bool
neighbours s [] = false
neighbours s (b ∷ bs) = neighbours_from s b bs
