-- The bytes that two rows share, up to a line feed: the rows compare as what follows these bytes, with as many fields fewer as there are tabs among them.
-- Assumes nothing.
use mathlib.Core.Path.{◌≡◌, refl, sym, ◌∙◌, ap}
use mathlib.Core.Bool.{Bool, true, false, ◌&&◌}
use mathlib.Core.List.{List, ◌∷◌}
use Prim.Native.Nat.{ℕ, zero, suc, ◌+◌, ◌-◌, ◌<◌, ◌≤◌}
use native.Mathlib.Omega.{arith}
use borrow.Author.Tests.{eq-eqb, ne_eqb, lt-ltb, eqb-true, eqb-false, not-true}
use lib.Dec.{eqb, ltb}
use lib.ListN.{length, drop, get_or}
use Rattle.text_scan.specs.Choice.{pick, ◌and◌, not}
use Rattle.text_scan.proofs.Tests.{and_left, and_right}
use Rattle.text_scan.proofs.Within.{there, holds_there, drop_here}
use Rattle.table_lines.specs.Lines.{is_tab, front}
use Rattle.std.specs.declared.cmp.Ordering.{Ordering}
use Rattle.std.specs.declared.cmp.Ordering.TheVariants.{Less, Equal, Greater}
use Rattle.sort_compare.specs.Order.{order}
use Rattle.sort_compare.specs.Fields.{is_feed, front_field, after_field, shown, fields_from, coded, row_key}
use Rattle.sort_compare.specs.Units.{unit_of, sharing, tabs_in}
use Rattle.std.specs.Ordering.{nat_cmp}
use Rattle.sort_compare.proofs.Ordering.{order_refl, told}
use Rattle.sort_compare.proofs.Parts.{shown_byte, ends_tab, no_end, unit_exact, unit_end, unit_here, next_tab}
use Rattle.sort_compare.proofs.Comparing.{RowsFrom, rows_start, rows_same, row_less, row_more, on, field_over}

-- ---- one byte more
both : (t u v : Bool) → ((t && u) && v) ≡ t and u and v
both true true v = refl
both true false v = refl
both false u v = refl

module _ (s : List ℕ) (i j k : ℕ) where
  next : k + 1 ≡ suc k
  next = omega arith

  module _ (t : Bool) (e : t ≡ sharing s i j k) where
    pub block_more : ((t && eqb (get_or s (i + k) 0) (get_or s (j + k) 0)) && not (eqb (get_or s (i + k) 0) 10)) ≡ sharing s i j (k + 1)
    unfolding sharing
    block_more = rw (next, ← e) (both t (eqb (get_or s (i + k) 0) (get_or s (j + k) 0)) (not (eqb (get_or s (i + k) 0) 10)))

    pub block_whole : (n : ℕ) → k ≤ n → n ≤ k → t ≡ sharing s i j n
    block_whole n h g =
        let f : k ≡ n = omega arith in
        rw f at e

  module _ (l : sharing s i j k ≡ true) where
    module _ (e : get_or s (i + k) 0 ≡ get_or s (j + k) 0) where
      pub shares_on : (get_or s (i + k) 0 ≡ 10 → ⊥) → sharing s i j (k + 1) ≡ true
      unfolding sharing
      shares_on f = rw (next, l, eq-eqb (get_or s (i + k) 0) (get_or s (j + k) 0) e, ne_eqb (get_or s (i + k) 0) 10 f)

      pub shares_above : 13 < get_or s (i + k) 0 → sharing s i j (k + 1) ≡ true
      shares_above g = shares_on (λ p. absurd (omega arith))

    -- a block more
    joined : (m : ℕ) → sharing s (i + k) (j + k) m ≡ true → sharing s i j (k + m) ≡ true
    unfolding sharing
    joined zero e =
        let f : k + 0 ≡ k = omega arith in
        rw f l
    joined (suc m) e =
        let f : k + suc m ≡ suc (k + m) = omega arith in
        let g : i + (k + m) ≡ i + k + m = omega arith in
        let h : j + (k + m) ≡ j + k + m = omega arith in
        rw (f, g, h, joined m (and_left (sharing s (i + k) (j + k) m) _ e)) (and_right (sharing s (i + k) (j + k) m) _ e)

    pub block_joined : (m : ℕ) (t : Bool) → t ≡ sharing s (i + k) (j + k) m → t ≡ true → sharing s i j (k + m) ≡ true
    block_joined m t e f = joined m (sym e ∙ f)

module _ (s : List ℕ) (i k m : ℕ) (e : m ≡ tabs_in s i k) where
  tab_more : get_or s (i + k) 0 ≡ 9 → m + 1 ≡ tabs_in s i (k + 1)
  unfolding tabs_in
  tab_more f =
      let g : k + 1 ≡ suc k = omega arith in
      rw (g, f, e)

  pub tab_none : (get_or s (i + k) 0 ≡ 9 → ⊥) → m ≡ tabs_in s i (k + 1)
  unfolding tabs_in
  tab_none f =
      let g : k + 1 ≡ suc k = omega arith in
      rw (g, ne_eqb (get_or s (i + k) 0) 9 f) e

  pub tabs_more : get_or s (i + k) 0 ≡ 9 → (r : ℕ) → r ≡ m + 1 → r ≡ tabs_in s i (k + 1)
  tabs_more f r g = g ∙ tab_more f

  pub tabs_same : (get_or s (i + k) 0 ≡ 9 → ⊥) → (r : ℕ) → r ≡ m → r ≡ tabs_in s i (k + 1)
  tabs_same f r g = g ∙ tab_none f

  pub tabs_whole : (n : ℕ) → k ≤ n → n ≤ k → m ≡ tabs_in s i n
  tabs_whole n h g =
      let f : k ≡ n = omega arith in
      rw f at e

pub tab_above : (s : List ℕ) (i k : ℕ) → tabs_in s i k ≡ 0 → 13 < get_or s (i + k) 0 → tabs_in s i (k + 1) ≡ 0
tab_above s i k e g = sym (tab_none s i k 0 (sym e) (λ p. absurd (omega arith)))

-- ---- rows are told from behind a byte that both have
module _ (s : List ℕ) (a b fields folded : ℕ) where
  none_left : (i j c d : ℕ) → RowsFrom s a b fields folded i j 0 → RowsFrom s a b fields folded c d 0
  unfolding RowsFrom row_key fields_from coded
  none_left i j c d l = l

  module _ (i j : ℕ) (h : i < length s) (g : j < length s) where
    over_byte : (left : ℕ) → RowsFrom s a b fields folded i j left → get_or s i 0 ≡ get_or s j 0 → (get_or s i 0 ≡ 9 → ⊥) → (get_or s i 0 ≡ 10 → ⊥) → RowsFrom s a b fields folded (i + 1) (j + 1) left
    over_byte zero l e t f = none_left i j (i + 1) (j + 1) l
    over_byte (suc n) l e t f =
        on s a b fields folded i j (suc n) l (omega arith) h g (no_end true (get_or s i 0) t f) (rw (← e) (no_end true (get_or s i 0) t f)) (ap (shown_byte (eqb (suc n) folded)) e)

    over_tab : (left : ℕ) → RowsFrom s a b fields folded i j left → get_or s i 0 ≡ 9 → get_or s j 0 ≡ 9 → RowsFrom s a b fields folded (i + 1) (j + 1) (left - 1)
    over_tab zero l e f =
        let z : 0 - 1 ≡ 0 = omega arith in
        rw z (none_left i j (i + 1) (j + 1) l)
    over_tab (suc n) l e f =
        field_over s a b fields folded i j (suc n) l (omega arith) 0 (ended i h e) 0 (ended j g f) refl refl (i + 1) (j + 1) (next_tab s i e) (next_tab s j f)
      where
        ended : (k : ℕ) → k < length s → get_or s k 0 ≡ 9 → 0 ≡ unit_of (shown (eqb (suc n) folded) (front_field true (drop k s)))
        ended k p q = unit_end true s k (eqb (suc n) folded) p true (ends_tab true (get_or s k 0) refl q) refl

  -- ---- and from behind all that they share
  module _ (i j left : ℕ) (l : RowsFrom s a b fields folded i j left) where
    abbrev Behind : ℕ → ℕ → Type 0
    Behind n m = RowsFrom s a b fields folded (i + n) (j + n) m

    behind : (n : ℕ) → n ≤ length s - i → n ≤ length s - j → sharing s i j n ≡ true → Behind n (left - tabs_in s i n)
    unfolding sharing tabs_in
    behind zero p q e =
        let c : i + 0 ≡ i = omega arith in
        let d : j + 0 ≡ j = omega arith in
        let m : left - 0 ≡ left = omega arith in
        rw (c, d, m) l
    behind (suc n) p q e =
        go (is_tab (get_or s (i + n) 0)) refl (behind n (omega arith) (omega arith) (and_left (sharing s i j n) _ e)) (and_right (sharing s i j n) _ e)
      where
        c : i + n + 1 ≡ i + suc n
        c = omega arith

        d : j + n + 1 ≡ j + suc n
        d = omega arith

        go : (t : Bool) → is_tab (get_or s (i + n) 0) ≡ t → Behind n (left - tabs_in s i n) → eqb (get_or s (i + n) 0) (get_or s (j + n) 0) and not (is_feed (get_or s (i + n) 0)) ≡ true → Behind (suc n) (left - pick t (tabs_in s i n + 1) (tabs_in s i n))
        go true r o v =
            let m : left - tabs_in s i n - 1 ≡ left - (tabs_in s i n + 1) = omega arith in
            let w : get_or s (i + n) 0 ≡ get_or s (j + n) 0 = eqb-true (get_or s (i + n) 0) (get_or s (j + n) 0) (and_left _ _ v) in
            rw (c, d, m) at (over_tab (i + n) (j + n) (omega arith) (omega arith) (left - tabs_in s i n) o (eqb-true (get_or s (i + n) 0) 9 r) (sym w ∙ eqb-true (get_or s (i + n) 0) 9 r))
        go false r o v =
            let w : get_or s (i + n) 0 ≡ get_or s (j + n) 0 = eqb-true (get_or s (i + n) 0) (get_or s (j + n) 0) (and_left _ _ v) in
            rw (c, d) at
            (over_byte (i + n) (j + n) (omega arith) (omega arith) (left - tabs_in s i n) o w (eqb-false (get_or s (i + n) 0) 9 r)
            (eqb-false (get_or s (i + n) 0) 10 (not-true (is_feed (get_or s (i + n) 0)) (and_right (eqb (get_or s (i + n) 0) (get_or s (j + n) 0)) _ v))))

    pub near_rows : (n : ℕ) → (n ≤ length s - i) × (n ≤ length s - j) × (sharing s i j n ≡ true) × (tabs_in s i n ≡ 0) → Behind n left
    near_rows n f =
        let m : left - tabs_in s i n ≡ left = omega (arith, f.3) in
        rw m at (behind n f.0 f.1 f.2)

-- ---- by the calls of the code
feed_fields : (n folded : ℕ) (xs ys : List ℕ) → fields_from n folded (10 ∷ xs) ≡ fields_from n folded (10 ∷ ys)
unfolding fields_from front_field front after_field
feed_fields zero folded xs ys = refl
feed_fields (suc n) folded xs ys = rw (feed_fields n folded xs ys)

module _ (s : List ℕ) (i j fields folded : ℕ) where
  abbrev asked : Ordering
  asked = order (row_key fields folded (drop i s)) (row_key fields folded (drop j s))

  module _ (k : ℕ) (p : k ≤ length s - i) (q : k ≤ length s - j) (l : sharing s i j k ≡ true) where
    from : RowsFrom s i j fields folded (i + k) (j + k) (fields - tabs_in s i k)
    from = behind s i j fields folded i j fields (rows_start s i j fields folded) k p q l

    pub share_feeds : (x y : ℕ) → x ≡ get_or s (i + k) 0 → x ≡ 10 → y ≡ get_or s (j + k) 0 → y ≡ 10 → Equal ≡ asked
    unfolding RowsFrom row_key
    share_feeds x y u v w z =
        let e : get_or s (i + k) 0 ≡ 10 = sym u ∙ v in
        let f : get_or s (j + k) 0 ≡ 10 = sym w ∙ z in
        let c : drop (i + k) s ≡ 10 ∷ drop (i + k + 1) s = rw e at (drop_here s (i + k) (there s (i + k) 10 (omega arith) e)) in
        let d : drop (j + k) s ≡ 10 ∷ drop (j + k + 1) s = rw f at (drop_here s (j + k) (there s (j + k) 10 (omega arith) f)) in
        sym (from ∙ rw (c, d, feed_fields (fields - tabs_in s i k) folded (drop (i + k + 1) s) (drop (j + k + 1) s)) (order_refl _))

    module _ (m : ℕ) (e : m ≡ tabs_in s i k) where
      pub share_none : fields ≤ m → Equal ≡ asked
      share_none h = rows_same s i j fields folded (i + k) (j + k) (fields - tabs_in s i k) from (omega arith)

      pub share_asked : (r : Ordering) → r ≡ order (row_key (fields - m) folded (drop (i + k) s)) (row_key (fields - m) folded (drop (j + k) s)) → r ≡ asked
      unfolding RowsFrom
      share_asked r f = (rw e at f) ∙ sym from

  pub near_asked : (k : ℕ) → (k ≤ length s - i) × (k ≤ length s - j) × (sharing s i j k ≡ true) × (tabs_in s i k ≡ 0) → (r : Ordering) → r ≡ order (row_key fields folded (drop (i + k) s)) (row_key fields folded (drop (j + k) s)) → r ≡ asked
  unfolding RowsFrom
  near_asked k f r e = e ∙ sym (near_rows s i j fields folded i j fields (rows_start s i j fields folded) k f)

-- ---- bytes above 13 that differ, where case counts
module _ (s : List ℕ) (i j left folded : ℕ) where
  unit_high : (k : ℕ) → (left ≡ folded → ⊥) → 13 < get_or s k 0 → get_or s k 0 + 1 ≡ unit_of (shown (eqb left folded) (front_field true (drop k s)))
  unit_high k z h =
      unit_here true s k (eqb left folded) (holds_there (ltb 13) refl s k (lt-ltb 13 (get_or s k 0) h)) false
      (sym (no_end true (get_or s k 0) (λ p. absurd (omega arith)) (λ p. absurd (omega arith)))) refl
      (get_or s k 0 + 1) (unit_exact (eqb left folded) (get_or s k 0) (ne_eqb left folded z))

  module _ (x y : ℕ) (e : x ≡ get_or s i 0) (f : y ≡ get_or s j 0) (h : 0 < left) (z : left ≡ folded → ⊥) (p : 13 < x) (q : 13 < y) where
    pub other_told : (x ≡ y → ⊥) → (r : Ordering) → r ≡ nat_cmp x y → r ≡ order (row_key left folded (drop i s)) (row_key left folded (drop j s))
    other_told v r o =
        told x y r asked o (λ g. less (omega arith)) (λ g. absurd (v g)) (λ g. more (omega arith))
      where
        asked : Ordering
        asked = order (row_key left folded (drop i s)) (row_key left folded (drop j s))

        less : get_or s i 0 + 1 < get_or s j 0 + 1 → Less ≡ asked
        less = row_less s i j left folded i j left (rows_start s i j left folded) h (get_or s i 0 + 1) (unit_high i z (omega arith)) (get_or s j 0 + 1) (unit_high j z (omega arith))

        more : get_or s j 0 + 1 < get_or s i 0 + 1 → Greater ≡ asked
        more = row_more s i j left folded i j left (rows_start s i j left folded) h (get_or s i 0 + 1) (unit_high i z (omega arith)) (get_or s j 0 + 1) (unit_high j z (omega arith))
