-- An element table of so many elements in document order: a parent has a lower number, first bytes rise with the number, and an element
-- ends no later than its parent. The root is its own parent.
-- Assumes nothing.
use Rattle.std.specs.Prelude.{ℕ, ◌/◌, ◌<◌, ◌≤◌, ◌≡◌, List, length}
use Rattle.xml_steps.specs.Reading.{parent_of, first_of, after_of}

pub record Nested (rows : List ℕ) (count : ℕ) : Type 0 where
  pub room : count ≤ length rows / 4
  pub root : parent_of rows 0 ≡ 0
  pub earlier : (k : ℕ) → 0 < k → k < count → parent_of rows k < k
  pub rises : (j k : ℕ) → j < k → k < count → first_of rows j < first_of rows k
  pub ends : (k : ℕ) → k < count → first_of rows k < after_of rows k
  pub nested : (k : ℕ) → 0 < k → k < count → after_of rows k ≤ after_of rows (parent_of rows k)
