-- What is told for one lookup, told for the one that is asked.
-- Assumes nothing.
use mathlib.Core.Path.{◌≡◌}
use mathlib.Core.Bool.{Bool, true}
use mathlib.Core.List.{List}
use Prim.Native.Nat.{ℕ}
use Rattle.text_scan.specs.Choice.{◌and◌, not}
use Rattle.table_lines.specs.Lines.{Row}
use Rattle.sort_compare.specs.Fields.{skip_place}
use Rattle.table_index.specs.declared.Lookup.{Lookup}
use Rattle.table_index.specs.Indexed.{keeps_row, key_place}

pub kept : (q k : Lookup) (a c : List ℕ) (row : Row) (r : Bool) → q ≡ k → r ≡ keeps_row k a c row → r ≡ keeps_row q a c row
kept q k a c row r e f = rw e f

pub fourth : (q : Lookup) → q ≡ Lookup.KeyElsewhere → (s : List ℕ) (i a b c d : ℕ) → a ≡ skip_place s i → b ≡ skip_place s a → c ≡ skip_place s b → d ≡ skip_place s c → d ≡ key_place q s i
unfolding key_place
fourth q e s i a b c d f g h j = rw (e, ← f, ← g, ← h) j

pub but : (t u : Bool) → t ≡ u → t ≡ true → (v w : Bool) → v ≡ w → not v ≡ u and not w
but t u e f v w g = rw (← e, f, g)
