-- An answer in document 01's numbers: the number of a refusal with what it returns; 0 where nothing is refused, with what is answered. Each answer that is an enum has
-- a definition that gives them for each of its cases.
-- Assumes nothing.
use Rattle.std.specs.Prelude.{ℕ, List}

pub record Numbered : Type 0 where
  pub number : ℕ
  pub values : List ℕ

abbrev pub numbered : ℕ → List ℕ → Numbered
numbered number values = record { number = number; values = values }
