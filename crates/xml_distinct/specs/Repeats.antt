-- Whether two of many positions have the same name, and how the positions are left.
-- Assumes nothing.
use Rattle.std.specs.Prelude.{ℕ, Bool, false, List, [], ◌∷◌, ◌++◌, ◌≡◌, eqb, length, take, drop}
use Rattle.text_scan.specs.Choice.{pick, ◌or◌}
use Rattle.text_scan.specs.Lists.{some, pairs}
use Rattle.xml_names.specs.Names.{name_at}
use Rattle.sort_compare.specs.declared.By.{By}
use Rattle.sort_compare.specs.Keys.{key_at}
use Rattle.sort_places.specs.Sorting.{Sorted}

-- the name at position b is t
abbrev pub is_called : List ℕ → List ℕ → ℕ → Bool
is_called s t b = pairs eqb t (name_at s b)

-- two of them have the same name
unfoldable pub twice : List ℕ → List ℕ → Bool
twice s [] = false
twice s (b ∷ bs) = some (is_called s (name_at s b)) bs or twice s bs

-- how many of them in front are sorted: 256, where two of these have the same name, and else all
unfoldable pub sorted_to : List ℕ → List ℕ → ℕ
sorted_to s bs = pick (twice s (take 256 bs)) 256 (length bs)

-- cs is what is left of the positions bs: so many sorted, and behind them what stood there (one run: law `one_left`)
pub record PlacesLeft (s bs cs : List ℕ) : Type 0 where
  pub front : List ℕ
  pub sorted : Sorted (key_at By.Name s) (take (sorted_to s bs) bs) front
  pub left : cs ≡ front ++ drop (sorted_to s bs) bs
