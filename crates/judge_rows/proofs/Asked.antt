-- What is asked with a value that was read is asked with what the document says.
-- Assumes nothing.
use mathlib.Core.Path.{◌≡◌, ◌∙◌}
use mathlib.Core.Bool.{Bool}
use mathlib.Core.List.{List}
use Prim.Native.Nat.{ℕ}
use Rattle.table_lines.specs.Lines.{Row}
use Rattle.table_rows.specs.declared.Question.{Question}
use Rattle.table_rows.specs.Rows.{some_row, is_asked, is_code, is_registered}

module _ (v w : List ℕ) (f : v ≡ w) (l : List Row) (r : Bool) where
  module _ (a b : List ℕ) where
    pub display_asked : r ≡ some_row (is_asked Question.Code a b v) l → r ≡ some_row (is_code a b w) l
    unfolding is_asked
    display_asked g = g ∙ rw f

    pub system_asked : r ≡ some_row (is_code a v b) l → r ≡ some_row (is_code a w b) l
    system_asked g = g ∙ rw f

    pub code_asked : r ≡ some_row (is_code v a b) l → r ≡ some_row (is_code w a b) l
    code_asked g = g ∙ rw f

    pub name_asked : r ≡ some_row (is_asked Question.Name a v b) l → r ≡ some_row (is_registered a w) l
    unfolding is_asked
    name_asked g = g ∙ rw f

  pub number_asked : (a : List ℕ) → r ≡ some_row (is_registered v a) l → r ≡ some_row (is_registered w a) l
  number_asked a g = g ∙ rw f
