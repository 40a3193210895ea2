-- What a sort of positions leaves: the same positions, rising by their keys and, where these are the same, by the positions themselves.
-- Assumes nothing.
use Rattle.std.specs.Prelude.{ℕ, ◌+◌, ◌≡◌, Bool, true, List, [], ◌∷◌}
use Rattle.text_scan.specs.Choice.{pick, ◌and◌}
use Rattle.std.specs.Ordering.{is_le}
use Rattle.sort_compare.specs.Order.{order}
use Rattle.sort_compare.specs.Fields.{coded}

-- how many of the positions have the property
unfoldable pub count : (ℕ → Bool) → List ℕ → ℕ
count p [] = 0
count p (b ∷ bs) = pick (p b) 1 0 + count p bs

-- the same positions, in whatever order: each property is had by as many
abbrev pub Rearranged : List ℕ → List ℕ → Type 0
Rearranged bs cs = (p : ℕ → Bool) → count p bs ≡ count p cs

-- b is not after the first of the others
abbrev pub leads : (ℕ → List ℕ) → ℕ → List ℕ → Bool
leads key b [] = true
leads key b (c ∷ cs) = is_le (order (key b) (key c))

-- none is after the next
unfoldable pub rising : (ℕ → List ℕ) → List ℕ → Bool
rising key [] = true
rising key (b ∷ bs) = leads key b bs and rising key bs

-- the key of a position, and behind it the position itself: no two have the same
unfoldable pub with_place : (ℕ → List ℕ) → ℕ → List ℕ
with_place key b = coded (key b ∷ (b ∷ []) ∷ [])

-- cs is bs, sorted: there is one such run (law `one_sort`)
unfoldable pub Sorted : (ℕ → List ℕ) → List ℕ → List ℕ → Type 0
Sorted key bs cs = (rising (with_place key) cs ≡ true) × Rearranged bs cs
