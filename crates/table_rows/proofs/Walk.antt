-- The walk along the rows of a section, for any test of a row.
-- Assumes nothing.
use mathlib.Core.Path.{◌≡◌, refl, sym, ◌∙◌, ap}
use mathlib.Core.Bool.{Bool, true, false}
use mathlib.Core.List.{List, [], ◌∷◌, ◌++◌}
use Prim.Native.Nat.{ℕ, suc, ◌+◌, ◌-◌, ◌<◌, ◌≤◌}
use native.Mathlib.Omega.{arith}
use borrow.Author.Tests.{lt-ltb, le-ltb}
use lib.ListN.{length, take, drop}
use Rattle.text_scan.specs.Choice.{◌or◌}
use Rattle.table_lines.specs.Lines.{Row, fields_of, line_end, rows_at}
use Rattle.table_rows.specs.Rows.{some_row}

-- whether some row is, told from `at`, is what is told from i, where k rows are passed
abbrev pub Walking : (Row → Bool) → List ℕ → ℕ → ℕ → ℕ → ℕ → Type 0
Walking q s at count i k = some_row q (rows_at s at count) ≡ some_row q (rows_at s i (count - k))

module _ (q : Row → Bool) (s : List ℕ) (at count i k : ℕ) (l : Walking q s at count i k) where
  pub no_more : count ≤ k → false ≡ some_row q (rows_at s at count)
  unfolding rows_at some_row
  no_more h =
      let z : count - k ≡ 0 = omega arith in
      sym (l ∙ rw z)

  module _ (h : k < count) where
    more : count - k ≡ suc (count - (k + 1))
    more = omega arith

    pub past_end : length s ≤ i → false ≡ some_row q (rows_at s at count)
    unfolding rows_at some_row
    past_end g = sym (l ∙ rw (more, le-ltb i (length s) g))

    module _ (g : i < length s) (e : ℕ) (p : e ≡ line_end s i) (t : Bool) (r : t ≡ q (fields_of (take (e - i) (drop i s)))) where
      here : some_row q (rows_at s i (count - k)) ≡ t or some_row q (rows_at s (e + 1) (count - (k + 1)))
      unfolding rows_at some_row
      here = ap (λ (n : ℕ). some_row q (rows_at s i n)) more ∙ rw (lt-ltb i (length s) g, ← p, ← r)

      pub row_found : t ≡ true → true ≡ some_row q (rows_at s at count)
      row_found f = sym (l ∙ here ∙ rw f)

      pub row_passed : t ≡ false → Walking q s at count (e + 1) (k + 1)
      row_passed f = l ∙ here ∙ rw f

-- of two tables one after the other
pub some_joined : (q : Row → Bool) (a b : List Row) → some_row q (a ++ b) ≡ some_row q a or some_row q b
unfolding some_row
some_joined q [] b = refl
some_joined q (row ∷ a) b = go (q row) (some_joined q a b)
  where
    go : (t : Bool) → some_row q (a ++ b) ≡ some_row q a or some_row q b → t or some_row q (a ++ b) ≡ (t or some_row q a) or some_row q b
    go true e = refl
    go false e = e
