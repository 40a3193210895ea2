-- Assumes nothing.
use Rattle.std.specs.Prelude.{Option}
use mathlib.Core.Path.{◌≡◌}
use mathlib.Core.Bool.{Bool}
use mathlib.Core.List.{List, [], ◌∷◌}
use Prim.Native.Nat.{ℕ}
use Rattle.xml_values.specs.declared.Place.{Place}
use Rattle.xml_values.specs.Attributes.{attribute_place, has_other}
use Rattle.xml_values.specs.Views.{plain_of}
use Rattle.xml_listed.specs.Listed.{listed_in}

pub all_four : (s : List ℕ) (f : ℕ) (x y z : List ℕ) (a : Option Place) → a ≡ plain_of s (attribute_place s f x) → (b : Option Place) → b ≡ plain_of s (attribute_place s f y) → (c : Option Place) → c ≡ plain_of s (attribute_place s f z) → (o : Bool) → o ≡ has_other s f (x ∷ y ∷ z ∷ []) → record { x = a; y = b; z = c; other = o } ≡ listed_in s f x y z
unfolding listed_in
all_four s f x y z a ea b eb c ec o eo = rw (ea, eb, ec, eo)
