-- The elements that are looked for below an element, by the branches of the loops over them: from one number to the next, up to the first
-- that starts at or behind the end of the element.
-- Assumes nothing.
use Rattle.std.specs.Prelude.{Option, None, Some, ℕ}
use mathlib.Core.Path.{◌≡◌, refl, sym, ◌∙◌, ap}
use mathlib.Core.Bool.{Bool, true, false}
use mathlib.Core.List.{List, [], ◌∷◌}
use Prim.Native.Nat.{ℕ, zero, suc, ◌+◌, ◌-◌, ◌*◌, ◌/◌, ◌<◌, ◌≤◌, ◌^◌}
use native.Mathlib.Omega.{arith}
use borrow.Author.Tests.{lt-ltb, le-ltb, eq-eqb, ne_eqb, eqb-true, eqb-false, ltb-true, ltb-false}
use lib.Dec.{eqb, ltb}
use lib.ListN.{length, get_or}
use mir.Val.{Fits}
use mir.Syntax.{w64}
use Rattle.text_scan.specs.Choice.{pick, ◌and◌, not}
use Rattle.text_scan.proofs.Tests.{and_false}
use Rattle.judge_below.specs.declared.Wanted.{Wanted}
use Rattle.judge_draft.specs.Below.{ancestor_in}
use Rattle.judge_draft.specs.Searched.{within, searched_from, searched}
use Rattle.judge_draft.specs.Drafts.{Draft, draft, element_count, parent, first, after, is, is_empty}
use Rattle.judge_below.specs.Chosen.{ancestor, meets, chosen, first_one, only_one, is_the}
use Rattle.judge_tests.specs.Passing.{passes}
use Rattle.judge_below.specs.Searching.{passes_below, chosen_from}

-- ---- an ancestor, by the branches of its loop
module _ (d : Draft) (levels k at : ℕ) where
  pub not_up : k ≡ at → ancestor d levels k ≡ ancestor d (levels - 0) at
  not_up e =
      let z : levels - 0 ≡ levels = omega arith in
      rw (z, e)

  pub up : (i : ℕ) → ancestor d levels k ≡ ancestor d (levels - i) at → i < levels → (p : ℕ) → p ≡ parent d at → ancestor d levels k ≡ ancestor d (levels - (i + 1)) p
  unfolding ancestor_in
  up i l h p q =
      let z : levels - i ≡ suc (levels - (i + 1)) = omega arith in
      l ∙ rw (z, q)

  pub here : (i : ℕ) → ancestor d levels k ≡ ancestor d (levels - i) at → levels ≤ i → at ≡ ancestor d levels k
  unfolding ancestor_in
  here i l h =
      let z : levels - i ≡ 0 = omega arith in
      sym (l ∙ rw z)

-- ---- whether an element is looked for
module _ (d : Draft) (w : Wanted) (n k : ℕ) where
  module _ (a : ℕ) (g : a ≡ ancestor d w.levels k) where
    pub elsewhere : (a ≡ n → ⊥) → false ≡ passes_below d w n k
    unfolding passes_below
    elsewhere h = rw (← g, ne_eqb a n h)

    pub there : a ≡ n → (r : Bool) → r ≡ passes d w.test k → r ≡ passes_below d w n k
    unfolding passes_below
    there h r i = i ∙ rw (← g, eq-eqb a n h)

-- ---- the list from one number to the next
module _ (d : Draft) (w : Wanted) (n : ℕ) where
  abbrev wants : ℕ → Bool
  wants k = eqb (ancestor d w.levels k) n and meets d w k

  abbrev rest : ℕ → ℕ → List ℕ
  rest k m = within d.notes w.levels (meets d w) n k m

  step : (k m : ℕ) → element_count d - k ≡ suc m → chosen_from d w n k ≡ pick (ltb (first d k) (after d n)) (pick (wants k) (k ∷ rest (k + 1) m) (rest (k + 1) m)) []
  unfolding chosen_from searched_from within
  step k m e = rw e

  module _ (k : ℕ) (h : k < element_count d) where
    m : ℕ
    m = element_count d - (k + 1)

    left : element_count d - k ≡ suc (element_count d - (k + 1))
    left = omega arith

    is_over : after d n ≤ first d k → chosen_from d w n k ≡ []
    is_over g = step k (element_count d - (k + 1)) left ∙ rw (le-ltb (first d k) (after d n) g)

    module _ (i : first d k < after d n) where
      is_next : wants k ≡ true → chosen_from d w n k ≡ k ∷ chosen_from d w n (k + 1)
      unfolding chosen_from searched_from
      is_next f = step k (element_count d - (k + 1)) left ∙ rw (lt-ltb (first d k) (after d n) i, f)

      is_later : wants k ≡ false → chosen_from d w n k ≡ chosen_from d w n (k + 1)
      unfolding chosen_from searched_from
      is_later f = step k (element_count d - (k + 1)) left ∙ rw (lt-ltb (first d k) (after d n) i, f)

  no_more : (k : ℕ) → element_count d ≤ k → chosen_from d w n k ≡ []
  unfolding chosen_from searched_from within
  no_more k h =
      let e : element_count d - k ≡ 0 = omega arith in
      rw e

  -- ---- the next one
  abbrev pub Next : ℕ → ℕ → Type 0
  Next from k = first_one (chosen_from d w n from) ≡ first_one (chosen_from d w n k)

-- the loops test the number against the length of the table that is lent
module _ (s notes : List ℕ) (w : Wanted) (n : ℕ) where
  its_count : length notes / 4 ≡ element_count (draft s notes)
  unfolding draft
  its_count = refl

  its_chosen : chosen (draft s notes) w n ≡ chosen_from (draft s notes) w n (n + 1)
  unfolding draft chosen searched chosen_from
  its_chosen = refl

  module _ (from k : ℕ) (l : Next (draft s notes) w n from k) where
    pub next_ends : length notes / 4 ≤ k → None ≡ first_one (chosen_from (draft s notes) w n from)
    next_ends h = sym (l ∙ rw (no_more (draft s notes) w n k (omega (arith, its_count))))

  -- ---- how many
  pub record Counted (found k : ℕ) : Type 0 where
    pub sum : length (chosen (draft s notes) w n) ≡ found + length (chosen_from (draft s notes) w n k)
    pub few : found ≤ k

  pub counted_none : Counted 0 (n + 1)
  counted_none = record { sum = omega (arith, ap length its_chosen); few = omega arith }

  module _ (found k : ℕ) (l : Counted found k) where
    pub counted_ends : length notes / 4 ≤ k → found ≡ length (chosen (draft s notes) w n)
    counted_ends h = omega (arith, l.sum, ap length (no_more (draft s notes) w n k (omega (arith, its_count))))

    pub counted_fits : k < length notes / 4 → length notes / 4 < 2 ^ 64 → Fits w64 (found + 1)
    counted_fits h g = omega (arith, l.few)

  -- ---- the next number, by the first byte in the element's row, its role's number and its place
  module _ (end : ℕ) (p : end ≡ after (draft s notes) n) where
    module _ (k : ℕ) (h : k < length notes / 4) where
      its_first : get_or notes (4 * k + 2) 0 ≡ first (draft s notes) k
      unfolding draft
      its_first = refl

      over : end ≤ get_or notes (4 * k + 2) 0 → chosen_from (draft s notes) w n k ≡ []
      over g = is_over (draft s notes) w n k (omega (arith, its_count)) (omega (arith, p, its_first))

      module _ (g : get_or notes (4 * k + 2) 0 < end) where
        one_more : wants (draft s notes) w n k ≡ true → chosen_from (draft s notes) w n k ≡ k ∷ chosen_from (draft s notes) w n (k + 1)
        one_more = is_next (draft s notes) w n k (omega (arith, its_count)) (omega (arith, p, its_first))

        later : wants (draft s notes) w n k ≡ false → chosen_from (draft s notes) w n k ≡ chosen_from (draft s notes) w n (k + 1)
        later = is_later (draft s notes) w n k (omega (arith, its_count)) (omega (arith, p, its_first))

    pub next_over : (from k : ℕ) → Next (draft s notes) w n from k → k < length notes / 4 → end ≤ get_or notes (4 * k + 2) 0 → None ≡ first_one (chosen_from (draft s notes) w n from)
    next_over from k l h g = sym (l ∙ rw (over k h g))

    pub counted_over : (found k : ℕ) → Counted found k → k < length notes / 4 → end ≤ get_or notes (4 * k + 2) 0 → found ≡ length (chosen (draft s notes) w n)
    counted_over found k l h g = omega (arith, l.sum, ap length (over k h g))

    module _ (y : ℕ) (f : y ≡ w.role) where
      module _ (k : ℕ) where
        other_role : (get_or notes (4 * k) 0 ≡ y → ⊥) → wants (draft s notes) w n k ≡ false
        unfolding draft is
        other_role i = rw (← f, ne_eqb (get_or notes (4 * k) 0) y i) (and_false (eqb (ancestor (draft s notes) w.levels k) n))

        its_role : get_or notes (4 * k) 0 ≡ y → wants (draft s notes) w n k ≡ passes_below (draft s notes) w n k
        unfolding draft is passes_below
        its_role i = rw (← f, eq-eqb (get_or notes (4 * k) 0) y i)

      module _ (from k : ℕ) (l : Next (draft s notes) w n from k) (h : k < length notes / 4) (g : get_or notes (4 * k + 2) 0 < end) where
        pub next_other : (get_or notes (4 * k) 0 ≡ y → ⊥) → Next (draft s notes) w n from (k + 1)
        next_other i = l ∙ rw (later k h g (other_role k i))

        module _ (i : get_or notes (4 * k) 0 ≡ y) (r : Bool) (u : r ≡ passes_below (draft s notes) w n k) where
          pub next_is : r ≡ true → Some k ≡ first_one (chosen_from (draft s notes) w n from)
          next_is v = sym (l ∙ rw (one_more k h g (its_role k i ∙ sym u ∙ v)))

          pub next_misses : r ≡ false → Next (draft s notes) w n from (k + 1)
          next_misses v = l ∙ rw (later k h g (its_role k i ∙ sym u ∙ v))

      module _ (found k : ℕ) (l : Counted found k) (h : k < length notes / 4) (g : get_or notes (4 * k + 2) 0 < end) where
        past : wants (draft s notes) w n k ≡ false → Counted found (k + 1)
        past v = record { sum = omega (arith, l.sum, ap length (later k h g v)); few = omega (arith, l.few) }

        pub counted_other : (get_or notes (4 * k) 0 ≡ y → ⊥) → Counted found (k + 1)
        counted_other i = past (other_role k i)

        module _ (i : get_or notes (4 * k) 0 ≡ y) (r : Bool) (u : r ≡ passes_below (draft s notes) w n k) where
          pub counted_one : r ≡ true → Counted (found + 1) (k + 1)
          counted_one v = record { sum = omega (arith, l.sum, ap length (one_more k h g (its_role k i ∙ sym u ∙ v))); few = omega (arith, l.few) }

          pub counted_misses : r ≡ false → Counted found (k + 1)
          counted_misses v = past (its_role k i ∙ sym u ∙ v)

  -- ---- past the end of the table there is none
  empty_past : length notes ≤ n → chosen (draft s notes) w n ≡ []
  empty_past h = its_chosen ∙ no_more (draft s notes) w n (n + 1) (omega (arith, its_count))

  pub only_past : length notes ≤ n → None ≡ only_one (chosen (draft s notes) w n)
  only_past h = rw (empty_past h)

  pub none_past : length notes ≤ n → true ≡ is_empty (chosen (draft s notes) w n)
  none_past h = rw (empty_past h)

  pub many_past : length notes ≤ n → 0 ≡ length (chosen (draft s notes) w n)
  many_past h = rw (empty_past h)

-- ---- the first, and the only one
not_empty : (x : ℕ) (l : List ℕ) → is_empty (x ∷ l) ≡ false
not_empty x l = ne_eqb (length (x ∷ l)) 0 (λ h. omega arith)

module _ (d : Draft) (w : Wanted) (n : ℕ) where
  none_first : (k : ℕ) → first_one (chosen_from d w n k) ≡ None → chosen_from d w n k ≡ []
  none_first k e = go (chosen_from d w n k) e
    where
      go : (l : List ℕ) → first_one l ≡ None → l ≡ []
      go [] e = refl
      go (x ∷ xs) e = absurd (let z : ◌≡◌ {A = ℕ} 0 1 = cc in omega arith)

  -- what is first is followed by those from the next number on
  abbrev First : ℕ → List ℕ → Type 0
  First r l = (r < element_count d) × (l ≡ r ∷ chosen_from d w n (r + 1))

  nothing_first : {A : Type 0} (r : ℕ) → None ≡ Some r → A
  nothing_first r e = absurd (let z : ◌≡◌ {A = ℕ} 0 1 = cc in omega arith)

  first_one_lem : (m k r : ℕ) → k + m ≡ element_count d → first_one (rest d w n k m) ≡ Some r → First r (rest d w n k m)
  unfolding within chosen_from searched_from
  first_one_lem zero k r h e = nothing_first r e
  first_one_lem (suc m) k r h e = go (ltb (first d k) (after d n)) (wants d w n k) e (first_one_lem m (k + 1) r (omega arith))
    where
      go : (i t : Bool) → first_one (pick i (pick t (k ∷ rest d w n (k + 1) m) (rest d w n (k + 1) m)) []) ≡ Some r → (first_one (rest d w n (k + 1) m) ≡ Some r → First r (rest d w n (k + 1) m)) → First r (pick i (pick t (k ∷ rest d w n (k + 1) m) (rest d w n (k + 1) m)) [])
      go true true e f =
          let q : k ≡ r = cc in
          let a : m ≡ element_count d - (r + 1) = omega arith in
          (omega arith, rw (← a, q))
      go true false e f = f e
      go false t e f = nothing_first r e

  at_first : (i k : ℕ) → first_one (chosen_from d w n i) ≡ Some k → First k (chosen_from d w n i)
  unfolding chosen_from searched_from
  at_first i k e = go (ltb i (element_count d)) refl
    where
      go : (t : Bool) → ltb i (element_count d) ≡ t → First k (rest d w n i (element_count d - i))
      go true q = first_one_lem (element_count d - i) i k (omega (arith, ltb-true i (element_count d) q)) e
      go false q = nothing_first k (sym (ap first_one (no_more d w n i (ltb-false i (element_count d) q))) ∙ e)

module _ (s notes : List ℕ) (w : Wanted) (n : ℕ) where
  abbrev its : Draft
  its = draft s notes

  module _ (x : Option ℕ) (f : x ≡ first_one (chosen_from its w n (n + 1))) where
    all_none : x ≡ None → chosen its w n ≡ []
    all_none e = its_chosen s notes w n ∙ none_first its w n (n + 1) (sym f ∙ e)

    all_first : (k : ℕ) → x ≡ Some k → chosen its w n ≡ k ∷ chosen_from its w n (k + 1)
    all_first k e = its_chosen s notes w n ∙ (at_first its w n (n + 1) k (sym f ∙ e)).1

    pub only_none : x ≡ None → None ≡ only_one (chosen its w n)
    only_none e = rw (all_none e)

    pub none_below : x ≡ None → true ≡ is_empty (chosen its w n)
    none_below e = rw (all_none e)

    module _ (k : ℕ) (e : x ≡ Some k) where
      pub some_below : false ≡ is_empty (chosen its w n)
      some_below = rw (all_first k e, not_empty k (chosen_from its w n (k + 1)))

      module _ (y : Option ℕ) (g : y ≡ first_one (chosen_from its w n (k + 1))) where
        pub only_is : y ≡ None → Some k ≡ only_one (chosen its w n)
        only_is h = rw (all_first k e, none_first its w n (k + 1) (sym g ∙ h))

        pub only_more : (j : ℕ) → y ≡ Some j → None ≡ only_one (chosen its w n)
        only_more j h = rw (all_first k e, (at_first its w n (k + 1) j (sym g ∙ h)).1)

-- ---- an element that may be the only one
-- of a list with a first one, it is that one or none
the_first : (r k : ℕ) (l : List ℕ) → (r ≡ k → ⊥) → false ≡ is_the (only_one (r ∷ l)) k
the_first r k [] h = sym (ne_eqb r k h)
the_first r k (x ∷ l) h = refl

module _ (d : Draft) (w : Wanted) (n k : ℕ) where
  module _ (y : Option ℕ) (g : y ≡ first_one (chosen_from d w n (k + 1))) where
    pub not_followed : y ≡ None → false ≡ not (is_empty (chosen_from d w n (k + 1)))
    not_followed h = rw (none_first d w n (k + 1) (sym g ∙ h))

    pub followed : (j : ℕ) → y ≡ Some j → true ≡ not (is_empty (chosen_from d w n (k + 1)))
    followed j h = rw ((at_first d w n (k + 1) j (sym g ∙ h)).1, not_empty j (chosen_from d w n (j + 1)))

module _ (s notes : List ℕ) (w : Wanted) (n k : ℕ) where
  abbrev theirs : Draft
  theirs = draft s notes

  module _ (a : Bool) (g : a ≡ not (is_empty (chosen_from theirs w n (k + 1)))) where
    -- where the first one is k, those behind k are the rest
    pub more_behind : a ≡ true → false ≡ is_the (only_one (chosen theirs w n)) k
    more_behind h = rw (its_chosen s notes w n) (go (first_one (chosen_from theirs w n (n + 1))) refl)
      where
        go : (x : Option ℕ) → first_one (chosen_from theirs w n (n + 1)) ≡ x → false ≡ is_the (only_one (chosen_from theirs w n (n + 1))) k
        go None e = rw (none_first theirs w n (n + 1) e)
        go (Some r) e = rw (at_first theirs w n (n + 1) r e).1 (at (eqb r k) refl)
          where
            at : (b : Bool) → eqb r k ≡ b → false ≡ is_the (only_one (r ∷ chosen_from theirs w n (r + 1))) k
            at true q = rw (eqb-true r k q) (some (chosen_from theirs w n (k + 1)) (sym g ∙ h))
              where
                some : (l : List ℕ) → not (is_empty l) ≡ true → false ≡ is_the (only_one (k ∷ l)) k
                some [] z =
                    let y : false ≡ true = z in
                    absurd (let u : ◌≡◌ {A = ℕ} 0 1 = cc in omega arith)
                some (x ∷ l) z = refl
            at false q = the_first r k (chosen_from theirs w n (r + 1)) (eqb-false r k q)

    module _ (h : a ≡ false) (x : Option ℕ) (f : x ≡ first_one (chosen_from theirs w n (n + 1))) where
      pub none_at_all : x ≡ None → false ≡ is_the (only_one (chosen theirs w n)) k
      none_at_all e = rw (all_none s notes w n x f e)

      pub first_of_all : (r : ℕ) → x ≡ Some r → eqb r k ≡ is_the (only_one (chosen theirs w n)) k
      first_of_all r e = rw (all_first s notes w n x f r e) (at (eqb r k) refl)
        where
          at : (b : Bool) → eqb r k ≡ b → eqb r k ≡ is_the (only_one (r ∷ chosen_from theirs w n (r + 1))) k
          at true q = rw (eqb-true r k q) (none (chosen_from theirs w n (k + 1)) (sym g ∙ h))
            where
              none : (l : List ℕ) → not (is_empty l) ≡ false → eqb k k ≡ is_the (only_one (k ∷ l)) k
              none [] z = refl
              none (x ∷ l) z =
                  let y : true ≡ false = sym (ap not (not_empty x l)) ∙ z in
                  absurd (let u : ◌≡◌ {A = ℕ} 0 1 = cc in omega arith)
          at false q = q ∙ the_first r k (chosen_from theirs w n (r + 1)) (eqb-false r k q)

module _ (s notes : List ℕ) (w : Wanted) (n k : ℕ) where
  pub holder_past : length notes ≤ n → false ≡ is_the (only_one (chosen (draft s notes) w n)) k
  holder_past h = rw (empty_past s notes w n h)

  pub element_past : length notes ≤ k → false ≡ not (is_empty (chosen_from (draft s notes) w n (k + 1)))
  element_past h = rw (no_more (draft s notes) w n (k + 1) (omega (arith, its_count s notes w n)))

pub only_fits : (s notes : List ℕ) (w : Wanted) (n : ℕ) (x : Option ℕ) → x ≡ first_one (chosen_from (draft s notes) w n (n + 1)) → (k : ℕ) → x ≡ Some k → length notes < 2 ^ 64 → Fits w64 (k + 1)
only_fits s notes w n x f k e g = omega (arith, (at_first (draft s notes) w n (n + 1) k (sym f ∙ e)).0, its_count s notes w n)
