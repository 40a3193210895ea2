-- A row's fields tested one after the other.
-- Assumes nothing.
use mathlib.Core.Path.{◌≡◌}
use mathlib.Core.Bool.{Bool, true, false}
use Prim.Native.Nat.{ℕ}
use lib.Dec.{leb}
use mathlib.Core.List.{List}
use Rattle.text_scan.specs.Choice.{◌and◌, not}
use Rattle.table_lines.specs.Lines.{Row}
use Rattle.table_rows.specs.declared.Question.{Question}
use Rattle.table_rows.specs.Rows.{is_asked}

module _ (t a : Bool) (p : t ≡ a) where
  pub no_first : (b v : Bool) → t ≡ false → v ≡ false → v ≡ a and b
  no_first b v e f = rw (← p, e) f

  module _ (e : t ≡ true) where
    pub all_two : (v b : Bool) → v ≡ b → v ≡ a and b
    all_two v b q = rw (← p, e) q

    pub at_least : (x y m n : ℕ) → x ≡ m → y ≡ n → leb x y ≡ a and leb m n
    at_least x y m n q r = rw (← p, e, q, r)

    module _ (u b : Bool) (q : u ≡ b) where
      pub no_second : (c v : Bool) → u ≡ false → v ≡ false → v ≡ a and b and c
      no_second c v f g = rw (← p, e, ← q, f) g

      pub all_three : (v c : Bool) → u ≡ true → v ≡ c → v ≡ a and b and c
      all_three v c f r = rw (← p, e, ← q, f) r

      pub all_but : (v c : Bool) → u ≡ true → v ≡ c → not v ≡ a and b and not c
      all_but v c f r = rw (← p, e, ← q, f, r)

-- the test that is asked
pub asked : (q k : Question) (a b c : List ℕ) (row : Row) (r : Bool) → q ≡ k → r ≡ is_asked k a b c row → r ≡ is_asked q a b c row
asked q k a b c row r e f = rw e f
