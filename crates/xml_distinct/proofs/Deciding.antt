-- Where names rise, a name that is there twice is there at two neighbours: what is after the next one is after the name too. A sort keeps what
-- is there twice, so that the neighbours of the sorted positions decide.
-- Assumes nothing.
use mathlib.Core.Path.{◌≡◌, refl, sym, ◌∙◌, ap}
use mathlib.Core.Bool.{Bool, true, false}
use mathlib.Core.List.{List, [], ◌∷◌}
use Prim.Native.Nat.{ℕ}
use Rattle.text_scan.specs.Choice.{◌or◌}
use Rattle.text_scan.specs.Lists.{some}
use Rattle.text_scan.proofs.Tests.{never, and_left, and_right}
use Rattle.sort_compare.specs.declared.By.{By}
use Rattle.std.specs.declared.cmp.Ordering.TheVariants.{Less}
use Rattle.std.specs.Ordering.{is_le}
use Rattle.sort_compare.specs.Order.{order}
use Rattle.xml_names.specs.Names.{name_at}
use Rattle.sort_compare.specs.Keys.{key_at}
use Rattle.sort_compare.proofs.Ordering.{same_less, in_order_lem, order_refl, order_same, less_before}
use Rattle.sort_places.specs.Sorting.{leads, rising, Sorted}
use Rattle.sort_places.proofs.Sorting.{sorted_keys, sorted_same}
use Rattle.xml_distinct.specs.Repeats.{is_called, twice}
use Rattle.xml_distinct.specs.Neighbours.{neighbours_from, neighbours}
use Rattle.xml_distinct.proofs.Counting.{same_pairs, pairs_same, same_twice}

module _ (s : List ℕ) where
  not_called : (t : List ℕ) (b : ℕ) → order t (name_at s b) ≡ Less → is_called s t b ≡ false
  not_called t b e = go (is_called s t b) refl
    where
      go : (u : Bool) → is_called s t b ≡ u → u ≡ false
      go true f = same_less (sym (order_refl t) ∙ ap (order t) (pairs_same t (name_at s b) f) ∙ e)
      go false f = refl

  -- a name that is not after another is before it or the same
  called_not : (t : List ℕ) (b : ℕ) → is_le (order t (name_at s b)) ≡ true → is_called s t b ≡ false → order t (name_at s b) ≡ Less
  called_not t b e f =
      in_order_lem (order t (name_at s b)) e (λ g. g)
      (λ g. never (sym (same_pairs t) ∙ rw (← order_same t (name_at s b) g) at f))

  -- a name before the first is none of them
  none_called : (t : List ℕ) (b : ℕ) (bs : List ℕ) → order t (name_at s b) ≡ Less → rising (key_at By.Name s) (b ∷ bs) ≡ true → some (is_called s t) (b ∷ bs) ≡ false
  unfolding some rising
  none_called t b [] e f = rw (not_called t b e)
  none_called t b (c ∷ cs) e f =
      let g : is_le (order (name_at s b) (name_at s c)) ≡ true = and_left (leads (key_at By.Name s) b (c ∷ cs)) (rising (key_at By.Name s) (c ∷ cs)) f in
      rw (not_called t b e)
      (none_called t c cs (less_before t (name_at s b) (name_at s c) e g) (and_right (leads (key_at By.Name s) b (c ∷ cs)) (rising (key_at By.Name s) (c ∷ cs)) f))

  rising_twice : (b : ℕ) (bs : List ℕ) → rising (key_at By.Name s) (b ∷ bs) ≡ true → twice s (b ∷ bs) ≡ neighbours_from s b bs
  unfolding twice some neighbours_from rising
  rising_twice b [] f = refl
  rising_twice b (c ∷ cs) f =
      let h : rising (key_at By.Name s) (c ∷ cs) ≡ true = and_right (leads (key_at By.Name s) b (c ∷ cs)) (rising (key_at By.Name s) (c ∷ cs)) f in
      go (is_called s (name_at s b) c) refl (and_left (leads (key_at By.Name s) b (c ∷ cs)) (rising (key_at By.Name s) (c ∷ cs)) f) h (rising_twice c cs h)
    where
      go : (u : Bool) → is_called s (name_at s b) c ≡ u → is_le (order (name_at s b) (name_at s c)) ≡ true → rising (key_at By.Name s) (c ∷ cs) ≡ true → twice s (c ∷ cs) ≡ neighbours_from s c cs → some (is_called s (name_at s b)) (c ∷ cs) or twice s (c ∷ cs) ≡ is_called s (name_at s b) c or neighbours_from s c cs
      go true e g h k = rw e
      go false e g h k = rw (none_called (name_at s b) c cs (called_not (name_at s b) c g e) h, e) k

  rising_neighbours : (bs : List ℕ) → rising (key_at By.Name s) bs ≡ true → twice s bs ≡ neighbours s bs
  unfolding twice neighbours
  rising_neighbours [] f = refl
  rising_neighbours (b ∷ bs) f = rising_twice b bs f

  pub sorted_decides : (bs cs : List ℕ) → Sorted (key_at By.Name s) bs cs → (r : Bool) → r ≡ neighbours s cs → r ≡ twice s bs
  sorted_decides bs cs d r e =
      e ∙ sym (rising_neighbours cs (sorted_keys (key_at By.Name s) bs cs d)) ∙ sym (same_twice s bs cs (sorted_same (key_at By.Name s) bs cs d))
