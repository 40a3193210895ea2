-- What is asked for is sought among the places of an index: they rise, and have the keys of the rows.
-- Assumes nothing.
use mathlib.Core.Path.{◌≡◌, sym, ◌∙◌}
use mathlib.Core.Bool.{Bool, true}
use mathlib.Core.List.{List}
use Prim.Native.Nat.{ℕ, ◌+◌, ◌-◌, ◌<◌}
use native.Mathlib.Omega.{arith}
use lib.ListN.{length, take, drop, get_or}
use Rattle.text_scan.specs.Lists.{some}
use Rattle.table_lines.specs.Lines.{Row, rows_at}
use Rattle.table_rows.specs.declared.Question.{Question}
use Rattle.table_rows.specs.Rows.{some_row, is_asked}
use Rattle.sort_compare.specs.Keys.{key_at}
use Rattle.sort_places.specs.Sorting.{rising}
use Rattle.table_index.specs.declared.Lookup.{Lookup}
use Rattle.table_index.specs.Indexed.{asks, by_of, keeps_row, key_from, is_key_of, places_in, Serves}
use Rattle.table_search.proofs.Keys.{some_asked}

one_less : (n : ℕ) → 1 + n - 1 ≡ n
one_less n = omega arith

module _ (q : Lookup) (s x : List ℕ) where
  pub places_rise : rising (key_at (by_of q) s) (places_in x) ≡ true → rising (key_at (by_of q) s) (take (1 + get_or x 0 0 - 1) (drop 1 x)) ≡ true
  places_rise l = rw (one_less (get_or x 0 0)) l

  pub places_sought : (k : List ℕ) (r : Bool) → r ≡ some (is_key_of q s k) (take (1 + get_or x 0 0 - 1) (drop 1 x)) → r ≡ some (is_key_of q s k) (places_in x)
  places_sought k r e = rw (one_less (get_or x 0 0)) at e

module _ (q : Lookup) (keeps : Row → Bool) (s : List ℕ) (at count : ℕ) (x : List ℕ) (l : Serves q keeps s at count x) (h : 0 < length x) where
  pub served_fits : get_or x 0 0 < length x
  served_fits = (l.index h).fits

  pub served_rises : rising (key_at (by_of q) s) (places_in x) ≡ true
  served_rises = (l.index h).rises

pub answered : (q : Lookup) (s : List ℕ) (at count : ℕ) (x a b c : List ℕ) → Serves q (keeps_row q a c) s at count x → 0 < length x → (r : Bool) → r ≡ some (is_key_of q s (key_from q a b c)) (places_in x) → r ≡ some_row (is_asked (asks q) a b c) (rows_at s at count)
answered q s at count x a b c l h r e = e ∙ sym (some_asked q a b c (rows_at s at count) ∙ (l.index h).rows.same (key_from q a b c))

-- along all rows
pub walked : (q : Lookup) (a b c : List ℕ) (rows : List Row) (k : Question) → k ≡ asks q → (r : Bool) → r ≡ some_row (is_asked k a b c) rows → r ≡ some_row (is_asked (asks q) a b c) rows
walked q a b c rows k e r f = rw (← e) f
