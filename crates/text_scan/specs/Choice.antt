-- Choices on a test: the words in which the definitions are written.
-- Assumes nothing.
use Rattle.std.specs.Prelude.{ℕ, Bool, true, false, leb}
pub use Rattle.std.specs.Prelude.{not}

abbrev pub pick : {A : Type 0} → Bool → A → A → A
pick true a b = a
pick false a b = b

abbrev pub ◌or◌ : Bool → Bool → Bool
true or b = true
false or b = b

abbrev pub ◌and◌ : Bool → Bool → Bool
true and b = b
false and b = false

infixr 30 ◌or◌
infixr 35 ◌and◌
-- lo ≤ x ≤ hi
abbrev pub between : ℕ → ℕ → ℕ → Bool
between lo hi x = leb lo x and leb x hi
