-- What is asked of a joined file's rows is asked of both files' rows: some row of it is, where some row of either is.
-- Assumes nothing.
use mathlib.Core.Path.{◌≡◌}
use mathlib.Core.Bool.{Bool}
use mathlib.Core.List.{List}
use Prim.Native.Nat.{ℕ}
use Rattle.text_scan.specs.Choice.{◌or◌}
use Rattle.table_lines.specs.Lines.{Row}
use Rattle.table_file.specs.Accepted.{tables_of}
use Rattle.table_rows.specs.Rows.{some_row}
use Rattle.table_rows.proofs.Walk.{some_joined}
use Rattle.table_join.specs.Joins.{Joins}

module _ (q : Row → Bool) (c a b : List ℕ) (j : Joins c a b) where
  pub asked_codes : some_row q (tables_of c).codes ≡ some_row q (tables_of a).codes or some_row q (tables_of b).codes
  asked_codes = rw j.rows (some_joined q (tables_of a).codes (tables_of b).codes)

  pub asked_names : some_row q (tables_of c).names ≡ some_row q (tables_of a).names or some_row q (tables_of b).names
  asked_names = rw j.rows (some_joined q (tables_of a).names (tables_of b).names)

  pub asked_history : some_row q (tables_of c).history ≡ some_row q (tables_of a).history or some_row q (tables_of b).history
  asked_history = rw j.rows (some_joined q (tables_of a).history (tables_of b).history)
