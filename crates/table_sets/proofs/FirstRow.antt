-- The first row that passes a test, and what it tells of other tests: none that passes fewer rows is passed where there is no such row.
-- Assumes nothing.
use mathlib.Core.Path.{◌≡◌, refl, sym, ◌∙◌, ap}
use mathlib.Core.Bool.{Bool, true, false}
use mathlib.Core.List.{List}
use Prim.Native.Nat.{ℕ, zero, suc, ◌+◌, ◌-◌, ◌<◌, ◌≤◌}
use native.Mathlib.Omega.{arith}
use borrow.Author.Tests.{lt-ltb, le-ltb, ltb-true, ltb-false}
use lib.Dec.{ltb}
use lib.ListN.{length, take, drop}
use Rattle.text_scan.specs.Choice.{pick, ◌and◌, not}
use Rattle.text_scan.proofs.Tests.{never, or_true, and_left, and_right, not_passed}
use Rattle.text_facts.specs.Strings.{equal}
use Rattle.text_facts.proofs.StringLaws.{equal_is}
use Rattle.table_lines.specs.Lines.{Row, field, fields_of, line_at, line_end, rows_at}
use Rattle.table_rows.specs.Rows.{some_row, is_other_key}
use Rattle.table_sets.specs.declared.Keys.{Keys}
use Rattle.table_sets.specs.SetKeys.{is_of_set, first_row, key_of_row, keys_of}

module _ (p : Row → Bool) (s : List ℕ) where
  -- ---- the walk: the first row, told from `at`, is what is told from i, where k rows are passed
  abbrev pub Looking : ℕ → ℕ → ℕ → ℕ → Type 0
  Looking at count i k = first_row p s at count ≡ first_row p s i (count - k)

  module _ (at count i k : ℕ) (l : Looking at count i k) where
    pub no_more : count ≤ k → length s ≡ first_row p s at count
    unfolding first_row
    no_more h =
        let z : count - k ≡ 0 = omega arith in
        sym (l ∙ rw z)

    module _ (h : k < count) where
      more : count - k ≡ suc (count - (k + 1))
      more = omega arith

      pub past_end : length s ≤ i → length s ≡ first_row p s at count
      unfolding first_row
      past_end g = sym (l ∙ rw (more, le-ltb i (length s) g))

      module _ (g : i < length s) (e : ℕ) (q : e ≡ line_end s i) (t : Bool) (r : t ≡ p (fields_of (take (e - i) (drop i s)))) where
        here : first_row p s i (count - k) ≡ pick t i (first_row p s (e + 1) (count - (k + 1)))
        unfolding first_row
        here = ap (λ (n : ℕ). first_row p s i n) more ∙ rw (lt-ltb i (length s) g, ← q, ← r)

        pub row_found : t ≡ true → i ≡ first_row p s at count
        row_found f = sym (l ∙ here ∙ rw f)

        pub row_passed : t ≡ false → Looking at count (e + 1) (k + 1)
        row_passed f = l ∙ here ∙ rw f

  -- ---- what holds of it, by the ways in which it is found
  abbrev row : ℕ → Row
  row i = fields_of (line_at s i)

  module _ (P : ℕ → ℕ → ℕ → Type 0) (none : (i : ℕ) → P i zero (length s)) (past : (i n : ℕ) → length s ≤ i → P i (suc n) (length s)) (found : (i n : ℕ) → i < length s → p (row i) ≡ true → P i (suc n) i) (next : (i n f : ℕ) → i < length s → p (row i) ≡ false → P (line_end s i + 1) n f → P i (suc n) f) where
    first_case : (i n : ℕ) → P i n (first_row p s i n)
    unfolding first_row
    first_case i zero = none i
    first_case i (suc n) = go (ltb i (length s)) refl (p (row i)) refl (first_case (line_end s i + 1) n)
      where
        go : (t : Bool) → ltb i (length s) ≡ t → (u : Bool) → p (row i) ≡ u → P (line_end s i + 1) n (first_row p s (line_end s i + 1) n) → P i (suc n) (pick t (pick u i (first_row p s (line_end s i + 1) n)) (length s))
        go true e true f h = found i n (ltb-true i (length s) e) f
        go true e false f h = next i n (first_row p s (line_end s i + 1) n) (ltb-true i (length s) e) f h
        go false e true f h = past i n (ltb-false i (length s) e)
        go false e false f h = past i n (ltb-false i (length s) e)

  pub first_most : (i n : ℕ) → first_row p s i n ≤ length s
  first_most = first_case (λ i n f. f ≤ length s) (λ i. omega arith) (λ i n h. omega arith) (λ i n h g. omega arith) (λ i n f h g k. k)

  -- it passes the test, and a test that it passes too is passed by some row
  pub first_passes : (i n : ℕ) → first_row p s i n < length s → (p (row (first_row p s i n)) ≡ true) × ((q : Row → Bool) → q (row (first_row p s i n)) ≡ true → some_row q (rows_at s i n) ≡ true)
  unfolding some_row rows_at
  first_passes =
      first_case
      (λ i n f. f < length s → (p (row f) ≡ true) × ((q : Row → Bool) → q (row f) ≡ true → some_row q (rows_at s i n) ≡ true))
      (λ i h. absurd (omega arith))
      (λ i n h g. absurd (omega arith))
      (λ i n h g k. (g, λ q t. rw (lt-ltb i (length s) h, t)))
      (λ i n f h g k j. ((k j).0, λ q t. rw (lt-ltb i (length s) h, (k j).1 q t) (or_true (q (row i)))))

  -- where there is none, no row passes a test that passes only such rows
  pub first_none : (q : Row → Bool) → ((r : Row) → q r ≡ true → p r ≡ true) → (i n : ℕ) → length s ≤ first_row p s i n → some_row q (rows_at s i n) ≡ false
  unfolding some_row rows_at
  first_none q sub =
      first_case
      (λ i n f. length s ≤ f → some_row q (rows_at s i n) ≡ false)
      (λ i h. refl)
      (λ i n h g. rw (le-ltb i (length s) h))
      (λ i n h g k. absurd (omega arith))
      (λ i n f h g k j. rw (lt-ltb i (length s) h, not_passed (q (row i)) (λ t. never (sym (sub (row i) t) ∙ g))) (k j))

-- ---- the keys of a type and a set id
module _ (type set : List ℕ) where
  of_set : (key : List ℕ) (r : Row) → is_other_key type set key r ≡ true → is_of_set type set r ≡ true
  unfolding is_other_key is_of_set
  of_set key r e =
      let a = equal (field r 0) type in
      let b = equal (field r 1) set in
      let c = not (equal (field r 4) key) in
      rw (and_left a (b and c) e, and_left b c (and_right a (b and c) e))

  another : (key : List ℕ) (r : Row) → is_of_set type set r ≡ true → equal (field r 4) key ≡ false → is_other_key type set key r ≡ true
  unfolding is_other_key is_of_set
  another key r e f =
      let a = equal (field r 0) type in
      let b = equal (field r 1) set in
      rw (and_left a b e, and_right a b e, f)

  module _ (s : List ℕ) (at count : ℕ) (keys : Keys) (k : keys ≡ keys_of type set s at count) (key : List ℕ) where
    is_first : keys.first ≡ first_row (is_of_set type set) s at count
    unfolding keys_of
    is_first = ap (λ (x : Keys). x.first) k

    pub no_first : length s ≤ keys.first → false ≡ some_row (is_other_key type set key) (rows_at s at count)
    no_first h = sym (first_none (is_of_set type set) s (is_other_key type set key) (of_set key) at count (rw is_first at h))

    module _ (h : keys.first < length s) (e : ℕ) (f : e ≡ line_end s keys.first) (t : Bool) (r : t ≡ equal (field (fields_of (take (e - keys.first) (drop keys.first s))) 4) key) where
      is_key : equal (key_of_row s (first_row (is_of_set type set) s at count)) key ≡ t
      is_key = rw (← is_first, ← f) (sym r)

      pub other_first : t ≡ false → true ≡ some_row (is_other_key type set key) (rows_at s at count)
      other_first a =
          let c = first_passes (is_of_set type set) s at count (rw is_first at h) in
          sym (c.1 (is_other_key type set key) (another key (fields_of (line_at s (first_row (is_of_set type set) s at count))) c.0 (is_key ∙ a)))

      pub same_first : t ≡ true → keys.several ≡ some_row (is_other_key type set key) (rows_at s at count)
      unfolding keys_of
      same_first a =
          ap (λ (x : Keys). x.several) k
          ∙ ap (λ (y : List ℕ). some_row (is_other_key type set y) (rows_at s at count)) (equal_is (key_of_row s (first_row (is_of_set type set) s at count)) key (is_key ∙ a))

pub told_most : (p : Row → Bool) (s : List ℕ) (at count i : ℕ) → i ≡ first_row p s at count → i ≤ length s
told_most p s at count i e = rw e (first_most p s at count)

pub keys_told : (type set s : List ℕ) (at count i : ℕ) → i ≡ first_row (is_of_set type set) s at count → (e : ℕ) → e ≡ line_end s i
    → (key : List ℕ) → key ≡ field (fields_of (take (e - i) (drop i s))) 4 → (t : Bool) → t ≡ some_row (is_other_key type set key) (rows_at s at count)
    → ◌≡◌ {A = Keys} (record { first = i; several = t }) (keys_of type set s at count)
unfolding keys_of
keys_told type set s at count i f e g key h t r = rw (r, h, g, f)
