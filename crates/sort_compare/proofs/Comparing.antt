-- The comparison of two rows, field by field: several fields as one string are ordered by the first, then by the others. And of two positions, by what
-- they are ordered by.
-- Assumes nothing.
use mathlib.Core.Path.{◌≡◌, refl, sym, ◌∙◌, ap}
use mathlib.Core.Bool.{Bool, true, false}
use mathlib.Core.List.{List, [], ◌∷◌, ◌++◌, map}
use Prim.Native.Nat.{ℕ, suc, ◌+◌, ◌-◌, ◌<◌, ◌≤◌}
use native.Mathlib.Omega.{arith}
use lib.Dec.{eqb}
use lib.ListN.{length, drop, get_or}
use Rattle.text_scan.proofs.Tests.{or_left, or_right}
use Rattle.text_scan.proofs.Within.{drop_here}
use Rattle.table_lines.specs.Lines.{is_tab}
use Rattle.std.specs.declared.cmp.Ordering.{Ordering}
use Rattle.std.specs.declared.cmp.Ordering.TheVariants.{Less, Equal, Greater}
use Rattle.sort_compare.specs.declared.By.{By}
use Rattle.std.specs.Ordering.{ordering_then}
use Rattle.sort_compare.specs.Order.{order}
use Rattle.sort_compare.specs.Fields.{is_feed, ends, front_field, after_field, shown, next_place, skip_place, fields_from, coded, row_key}
use Rattle.sort_compare.specs.Keys.{key_at}
use Rattle.std.specs.Ordering.{nat_cmp}
use Rattle.sort_compare.specs.Units.{unit_of}
use Rattle.sort_compare.proofs.Ordering.{compared, told, by_less, by_more, by_rest}
use Rattle.sort_compare.proofs.Parts.{shown_byte, shown_nil, shown_cons, part_goes, unit_inside, unit_goes, unit_is, unit_none}
use Rattle.sort_compare.proofs.Skipping.{drop_skip}

pub order_coded : (f g : List ℕ) (fs gs : List (List ℕ)) → order (coded (f ∷ fs)) (coded (g ∷ gs)) ≡ ordering_then (order f g) (order (coded fs) (coded gs))
unfolding order coded
order_coded [] [] fs gs = by_rest 0 0 (coded fs) (coded gs) refl
order_coded [] (y ∷ ys) fs gs = by_less 0 (suc y) (coded fs) (coded (ys ∷ gs)) (omega arith)
order_coded (x ∷ xs) [] fs gs = by_more (suc x) 0 (coded (xs ∷ fs)) (coded gs) (omega arith)
order_coded (x ∷ xs) (y ∷ ys) fs gs =
    compared x y
    (λ h. by_less (suc x) (suc y) (coded (xs ∷ fs)) (coded (ys ∷ gs)) (omega arith) ∙ rw (by_less x y xs ys h))
    (λ h. by_rest (suc x) (suc y) (coded (xs ∷ fs)) (coded (ys ∷ gs)) (ap suc h) ∙ order_coded xs ys fs gs ∙ rw (by_rest x y xs ys h))
    (λ h. by_more (suc x) (suc y) (coded (xs ∷ fs)) (coded (ys ∷ gs)) (omega arith) ∙ rw (by_more x y xs ys h))

-- ---- the key of the row at i, by its first unit
abbrev behind : List ℕ → List ℕ
behind [] = []
behind (x ∷ xs) = xs

module _ (s : List ℕ) (n folded i : ℕ) where
  abbrev any : Bool
  any = eqb (suc n) folded

  key_goes : i < length s → ends true (get_or s i 0) ≡ false → row_key (suc n) folded (drop i s) ≡ suc (shown_byte any (get_or s i 0)) ∷ row_key (suc n) folded (drop (i + 1) s)
  unfolding row_key fields_from coded
  key_goes h e = rw (part_goes true s i h e, after_goes, shown_cons any (get_or s i 0) (front_field true (drop (i + 1) s)))
    where
      b : ℕ
      b = get_or s i 0

      after_goes : after_field (drop i s) ≡ after_field (drop (i + 1) s)
      after_goes = unfold after_field in rw (drop_here s i h, or_left (is_tab b) (is_feed b) e, or_right (is_tab b) (is_feed b) e)

  key_ends : front_field true (drop i s) ≡ [] → row_key (suc n) folded (drop i s) ≡ 0 ∷ row_key n folded (drop (next_place s i) s)
  unfolding row_key fields_from coded skip_place
  key_ends e =
      let z : i + 0 ≡ i = omega arith in
      let f : drop (next_place s i) s ≡ after_field (drop i s) = rw (e, z) at (drop_skip s i) in
      rw (e, shown_nil any, f)

  -- whatever it is, the unit there comes first
  key_first : row_key (suc n) folded (drop i s) ≡ unit_of (shown any (front_field true (drop i s))) ∷ behind (row_key (suc n) folded (drop i s))
  unfolding row_key fields_from coded
  key_first = go (shown any (front_field true (drop i s))) (coded (fields_from n folded (after_field (drop i s))))
    where
      go : (f r : List ℕ) → map suc f ++ 0 ∷ r ≡ unit_of f ∷ behind (map suc f ++ 0 ∷ r)
      go [] r = refl
      go (x ∷ f) r = refl

-- ---- the loop: the rows compare as what is left of them
unfoldable pub RowsFrom : List ℕ → ℕ → ℕ → ℕ → ℕ → ℕ → ℕ → ℕ → Type 0
RowsFrom s a b fields folded i j left =
    order (row_key fields folded (drop a s)) (row_key fields folded (drop b s)) ≡ order (row_key left folded (drop i s)) (row_key left folded (drop j s))

pub rows_start : (s : List ℕ) (a b fields folded : ℕ) → RowsFrom s a b fields folded a b fields
unfolding RowsFrom
rows_start s a b fields folded = refl

module _ (s : List ℕ) (a b fields folded i j left : ℕ) (l : RowsFrom s a b fields folded i j left) where
  abbrev asked : Ordering
  asked = order (row_key fields folded (drop a s)) (row_key fields folded (drop b s))

  pub rows_same : left ≤ 0 → Equal ≡ asked
  unfolding RowsFrom order row_key fields_from coded
  rows_same h =
      let z : left ≡ 0 = omega arith in
      sym (l ∙ rw z)

  module _ (h : 0 < left) where
    more : left ≡ suc (left - 1)
    more = omega arith

    from : asked ≡ order (row_key (suc (left - 1)) folded (drop i s)) (row_key (suc (left - 1)) folded (drop j s))
    unfolding RowsFrom
    from = l ∙ ap (λ (m : ℕ). order (row_key m folded (drop i s)) (row_key m folded (drop j s))) more

    pub on : i < length s → j < length s → ends true (get_or s i 0) ≡ false → ends true (get_or s j 0) ≡ false → shown_byte (eqb left folded) (get_or s i 0) ≡ shown_byte (eqb left folded) (get_or s j 0) → RowsFrom s a b fields folded (i + 1) (j + 1) left
    unfolding RowsFrom
    on p q e f g =
        let o : shown_byte (eqb (suc (left - 1)) folded) (get_or s i 0) ≡ shown_byte (eqb (suc (left - 1)) folded) (get_or s j 0) = rw more at g in
        from
        ∙ (rw (key_goes s (left - 1) folded i p e, key_goes s (left - 1) folded j q f)
        (by_rest (suc (shown_byte (eqb (suc (left - 1)) folded) (get_or s i 0))) (suc (shown_byte (eqb (suc (left - 1)) folded) (get_or s j 0))) (row_key (suc (left - 1)) folded (drop (i + 1) s)) (row_key (suc (left - 1)) folded (drop (j + 1) s)) (ap suc o))
        ∙ ap (λ (m : ℕ). order (row_key m folded (drop (i + 1) s)) (row_key m folded (drop (j + 1) s))) (sym more))

    module _ (u : ℕ) (eu : u ≡ unit_of (shown (eqb left folded) (front_field true (drop i s)))) (w : ℕ) (ew : w ≡ unit_of (shown (eqb left folded) (front_field true (drop j s)))) where
      pub row_less : u < w → Less ≡ asked
      row_less g = sym (from ∙ rw (key_first s (left - 1) folded i, key_first s (left - 1) folded j, ← more, ← eu, ← ew) (by_less u w _ _ g))

      pub row_more : w < u → Greater ≡ asked
      row_more g = sym (from ∙ rw (key_first s (left - 1) folded i, key_first s (left - 1) folded j, ← more, ← eu, ← ew) (by_more u w _ _ g))

      pub row_told : (u ≡ w → ⊥) → (r : Ordering) → r ≡ nat_cmp u w → r ≡ asked
      row_told z r e = told u w r asked e row_less (λ h. absurd (z h)) row_more

      module _ (p : u ≡ w) where
        same : w ≡ u
        same = sym p

        pub rows_inside : (u ≡ 0 → ⊥) → (i < length s) × (j < length s)
        rows_inside z = (unit_inside true s i (eqb left folded) u eu z, unit_inside true s j (eqb left folded) w ew (λ e. z (sym same ∙ e)))

        pub chain_goes : (u ≡ 0 → ⊥) → RowsFrom s a b fields folded (i + 1) (j + 1) left
        chain_goes z =
            let t = eqb left folded in
            let y : w ≡ 0 → ⊥ = λ e. z (sym same ∙ e) in
            on (unit_inside true s i t u eu z) (unit_inside true s j t w ew y) (unit_goes true s i t u eu z) (unit_goes true s j t w ew y)
            (bytes (sym (unit_is true s i t u eu z) ∙ sym same ∙ unit_is true s j t w ew y))
          where
            bytes : {m n : ℕ} → suc m ≡ suc n → m ≡ n
            bytes e = omega arith

        pub field_over : u ≡ 0 → (c d : ℕ) → c ≡ next_place s i → d ≡ next_place s j → RowsFrom s a b fields folded c d (left - 1)
        unfolding RowsFrom
        field_over z c d e f =
            from
            ∙ (rw (key_ends s (left - 1) folded i (unit_none true s i (eqb left folded) u eu z), key_ends s (left - 1) folded j (unit_none true s j (eqb left folded) w ew (same ∙ z)), ← e, ← f)
            (by_rest 0 0 (row_key (left - 1) folded (drop c s)) (row_key (left - 1) folded (drop d s)) refl))

-- ---- two positions
pub compared_by : (by k : By) → by ≡ k → (s : List ℕ) (a b : ℕ) (r : Ordering) → r ≡ order (key_at k s a) (key_at k s b) → r ≡ order (key_at by s a) (key_at by s b)
compared_by by k e s a b r f = rw e f
