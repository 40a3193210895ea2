-- The search of a run that rises: where the key at a place is less than what is sought, it stands at no place up to there, and where it is more, at
-- none from there on.
-- Assumes nothing.
use mathlib.Core.Path.{◌≡◌, refl, sym, ◌∙◌, ap}
use mathlib.Core.Bool.{Bool, true, false}
use mathlib.Core.List.{List, [], ◌∷◌}
use Prim.Native.Nat.{ℕ, zero, suc, ◌+◌, ◌-◌, ◌/◌, ◌<◌, ◌≤◌}
use native.Mathlib.Numerals.{add-one}
use native.Mathlib.Omega.{arith}
use lib.Dec.{eqb}
use lib.ListN.{length, take, drop, get_or}
use lib.Seq.{drop-length}
use Rattle.text_scan.specs.Lists.{pairs, some}
use Rattle.text_scan.proofs.Tests.{not_passed, or_true, or_left, or_right, and_left, and_right}
use Rattle.text_scan.proofs.Within.{drop_here}
use Rattle.text_facts.specs.Strings.{equal}
use Rattle.text_facts.proofs.StringLaws.{equal_same, equal_is}
use Rattle.std.specs.declared.cmp.Ordering.{Ordering}
use Rattle.std.specs.declared.cmp.Ordering.TheVariants.{Less, Equal, Greater}
use Rattle.sort_compare.specs.Order.{order}
use Rattle.sort_compare.specs.Keys.{key_at}
use Rattle.sort_compare.proofs.Ordering.{same_less, more_same, order_refl, order_same, before_less, after_more}
use Rattle.sort_places.specs.Sorting.{leads, rising}
use Rattle.table_index.specs.declared.Lookup.{Lookup}
use Rattle.table_index.specs.Indexed.{by_of, is_key_of}

-- ---- parts of a list, for any property
module _ (p : ℕ → Bool) where
  -- none in front and none behind, where the parts leave nothing out
  none_left : (run : List ℕ) (a b : ℕ) → some p (take a run) ≡ false → some p (drop b run) ≡ false → b ≤ a → some p run ≡ false
  unfolding some
  none_left [] a b e f h = refl
  none_left (x ∷ xs) a zero e f h = f
  none_left (x ∷ xs) zero (suc b) e f h = absurd (omega arith)
  none_left (x ∷ xs) (suc a) (suc b) e f h =
      rw (or_left (p x) (some p (take a xs)) e) (none_left xs a b (or_right (p x) (some p (take a xs)) e) f (omega arith))

  some_at : (run : List ℕ) (m : ℕ) → m < length run → p (get_or run m 0) ≡ true → some p run ≡ true
  unfolding some
  some_at [] m h e = absurd (omega arith)
  some_at (x ∷ xs) zero h e = rw e
  some_at (x ∷ xs) (suc m) h e = rw (some_at xs m (omega arith) e) (or_true (p x))

-- ---- one key is sought among places in order
module _ (key : ℕ → List ℕ) (k : List ℕ) where
  abbrev is_it : ℕ → Bool
  is_it i = pairs eqb (key i) k

  it_same : (i : ℕ) → order (key i) k ≡ Equal → is_it i ≡ true
  unfolding equal
  it_same i e = rw (order_same (key i) k e) (equal_same k)

  it_not : (i : ℕ) (o : Ordering) → order (key i) k ≡ o → (Equal ≡ o → ⊥) → is_it i ≡ false
  unfolding equal
  it_not i o e f =
      not_passed (is_it i) (λ g. f (sym (order_refl k) ∙ ap (λ (l : List ℕ). order l k) (sym (equal_is (key i) k g)) ∙ e))

  it_less : (i : ℕ) → order (key i) k ≡ Less → is_it i ≡ false
  it_less i e = it_not i Less e (λ g. same_less g)

  it_more : (i : ℕ) → order (key i) k ≡ Greater → is_it i ≡ false
  it_more i e = it_not i Greater e (λ g. more_same (sym g))

  -- up to a place that is before it, and the first is before it too
  before : (run : List ℕ) (m : ℕ) → rising key run ≡ true → m < length run → order (key (get_or run m 0)) k ≡ Less → (some is_it (take (suc m) run) ≡ false) × (order (key (get_or run 0 0)) k ≡ Less)
  unfolding rising some
  before [] m e h l = absurd (omega arith)
  before (x ∷ xs) zero e h l = (rw (it_less x l), l)
  before (x ∷ []) (suc m) e h l = absurd (omega arith)
  before (x ∷ y ∷ ys) (suc m) e h l =
      let n = and_left (leads key x (y ∷ ys)) (rising key (y ∷ ys)) e in
      let r = before (y ∷ ys) m (and_right (leads key x (y ∷ ys)) (rising key (y ∷ ys)) e) (omega arith) l in
      let f : order (key x) k ≡ Less = before_less (key x) (key y) k n r.1 in
      (rw (it_less x f) r.0, f)

  none_before : (run : List ℕ) (m : ℕ) → rising key run ≡ true → m < length run → order (key (get_or run m 0)) k ≡ Less → some is_it (take (m + 1) run) ≡ false
  none_before run m e h l = rw (add-one m) (before run m e h l).0

  -- from a place on that is after it
  after : (x : ℕ) (xs : List ℕ) → rising key (x ∷ xs) ≡ true → order (key x) k ≡ Greater → some is_it (x ∷ xs) ≡ false
  unfolding rising some
  after x [] e l = rw (it_more x l)
  after x (y ∷ ys) e l =
      let n = and_left (leads key x (y ∷ ys)) (rising key (y ∷ ys)) e in
      rw (it_more x l) (after y ys (and_right (leads key x (y ∷ ys)) (rising key (y ∷ ys)) e) (after_more (key x) (key y) k n l))

  rising_drop : (m : ℕ) (run : List ℕ) → rising key run ≡ true → rising key (drop m run) ≡ true
  unfolding rising
  rising_drop zero run e = e
  rising_drop (suc m) [] e = e
  rising_drop (suc m) (x ∷ xs) e = rising_drop m xs (and_right (leads key x xs) (rising key xs) e)

  none_after : (run : List ℕ) (m : ℕ) → rising key run ≡ true → m < length run → order (key (get_or run m 0)) k ≡ Greater → some is_it (drop m run) ≡ false
  none_after run m e h l =
      let f : rising key (get_or run m 0 ∷ drop (m + 1) run) ≡ true = rw (drop_here run m h) at (rising_drop m run e) in
      rw (drop_here run m h) (after (get_or run m 0) (drop (m + 1) run) f l)

-- ---- the walk: it stands at no place before low, and at none from high on
unfoldable pub Searching : Lookup → List ℕ → List ℕ → List ℕ → ℕ → ℕ → Type 0
Searching q s k run low high = (some (is_key_of q s k) (take low run) ≡ false) × (some (is_key_of q s k) (drop high run) ≡ false)

module _ (q : Lookup) (s k run : List ℕ) where
  pub search_starts : Searching q s k run 0 (length run)
  unfolding Searching some
  search_starts = (refl, rw (drop-length run))

  module _ (low high : ℕ) (l : Searching q s k run low high) where
    pub search_ends : high ≤ low → false ≡ some (is_key_of q s k) run
    unfolding Searching
    search_ends h = sym (none_left (is_key_of q s k) run low high l.0 l.1 h)

    module _ (h : low < high) (g : high ≤ length run) (r : Ordering) (e : r ≡ order (key_at (by_of q) s (get_or run (low + (high - low) / 2) 0)) k) where
      within : low + (high - low) / 2 < length run
      within = omega arith

      pub search_same : r ≡ Equal → true ≡ some (is_key_of q s k) run
      search_same f =
          sym (some_at (is_key_of q s k) run (low + (high - low) / 2) within (it_same (key_at (by_of q) s) k (get_or run (low + (high - low) / 2) 0) (sym e ∙ f)))

      module _ (m : rising (key_at (by_of q) s) run ≡ true) where
        pub search_less : r ≡ Less → Searching q s k run (low + (high - low) / 2 + 1) high
        unfolding Searching
        search_less f = (none_before (key_at (by_of q) s) k run (low + (high - low) / 2) m within (sym e ∙ f), l.1)

        pub search_more : r ≡ Greater → Searching q s k run low (low + (high - low) / 2)
        unfolding Searching
        search_more f = (l.0, none_after (key_at (by_of q) s) k run (low + (high - low) / 2) m within (sym e ∙ f))
