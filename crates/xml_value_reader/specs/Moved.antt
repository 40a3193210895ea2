-- What the contract of the private function `moved` asks, and no definition of document 01.
-- Assumes nothing.
use Rattle.std.specs.Prelude.{ℕ, ◌+◌, ◌<◌, ◌^◌}
use Rattle.xml_values.specs.declared.View.{View}
use Rattle.xml_values.specs.declared.View.TheVariants.{Document, Scratch}

-- the places of a view of a range that begins at `first` are numbers of the machine
unfoldable pub Moves : ℕ → View → Type 0
Moves first (Document a e) = (first + a < 2 ^ 64) × (first + e < 2 ^ 64)
Moves first (Scratch n) = Unit {0}
