-- Where a raw value stands: its first byte and the place after it.
-- Assumes nothing.
use Rattle.std.specs.Prelude.{ℕ, Option, Some}
use Rattle.xml_values.specs.declared.Place.{Place}

abbrev pub from_to : ℕ → ℕ → Option Place
from_to a e = Some (record { first = a; after = e })
