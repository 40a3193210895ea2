-- In a table in document order (`Nested` of `xml_nesting`) with no row behind its elements, what is found below an element up to its end is all that
-- stands there, wherever in the table it stands: the draft as the code has it is the full draft.
-- Assumes nothing.
use mathlib.Core.Path.{◌≡◌, refl, sym, ◌∙◌, ap, fun_ext}
use mathlib.Core.Bool.{Bool, true, false}
use mathlib.Core.List.{List, []}
use Prim.Native.Nat.{ℕ, zero, suc, ◌+◌, ◌-◌, ◌*◌, ◌/◌, ◌<◌, ◌≤◌}
use native.Mathlib.Omega.{arith}
use borrow.Author.Tests.{lt-ltb, le-ltb, eq-eqb, ne_eqb, eqb-true, eqb-false, ltb-true, ltb-false}
use lib.Dec.{eqb, ltb}
use lib.ListN.{length}
use Rattle.text_scan.specs.Choice.{◌and◌}
use Rattle.text_scan.proofs.Tests.{and_false}
use Rattle.xml_steps.specs.Reading.{parent_of, first_of, after_of}
use Rattle.xml_nesting.specs.Nested.{Nested}
use Rattle.judge_draft.specs.Below.{ancestor_in, stands_below, those, all_below}
use Rattle.judge_draft.specs.Searched.{within, searched_from, searched}
use Rattle.judge_draft.specs.Drafts.{draft, full_draft}

-- ---- a number is the same or not, less or not; a test is met or not
split : (a b : ℕ) {A : Type 0} → (a ≡ b → A) → ((a ≡ b → ⊥) → A) → A
split a b {A} f g = go (eqb a b) refl
  where
    go : (t : Bool) → eqb a b ≡ t → A
    go true q = f (eqb-true a b q)
    go false q = g (eqb-false a b q)

less : (a b : ℕ) {A : Type 0} → (a < b → A) → (b ≤ a → A) → A
less a b {A} f g = go (ltb a b) refl
  where
    go : (t : Bool) → ltb a b ≡ t → A
    go true q = f (ltb-true a b q)
    go false q = g (ltb-false a b q)

unmet : (b : Bool) → (b ≡ true → ⊥) → b ≡ false
unmet true f = absurd (f refl)
unmet false f = refl

module _ (rows : List ℕ) (size : ℕ) (o : Nested rows size) (wide : length rows ≡ 4 * size) where
  its_size : length rows / 4 ≡ size
  its_size = omega (arith, wide)

  -- ---- what stands so many levels above k has no higher number, and ends no earlier; the root is its own parent
  low : (k : ℕ) → k < size → parent_of rows k ≤ k
  low k h = split k 0
      (λ q. rw (q, o.root) (omega arith))
      (λ q.
      let x : 0 < k = omega arith in
      omega (arith, o.earlier k x h))

  wraps : (k : ℕ) → k < size → after_of rows k ≤ after_of rows (parent_of rows k)
  wraps k h = split k 0
      (λ q. rw (q, o.root) (omega arith))
      (λ q.
      let x : 0 < k = omega arith in
      o.nested k x h)

  above : (levels k : ℕ) → k < size → (ancestor_in rows levels k ≤ k) × (after_of rows k ≤ after_of rows (ancestor_in rows levels k))
  unfolding ancestor_in
  above zero k h = (omega arith, omega arith)
  above (suc levels) k h =
      let a = above levels (parent_of rows k) (omega (arith, low k h)) in
      (omega (arith, a.0, low k h), omega (arith, a.1, wraps k h))

  -- ---- those that stand so many levels below n and have a property
  module _ (levels : ℕ) (p : ℕ → Bool) (n : ℕ) where
    abbrev sought : ℕ → Bool
    sought k = stands_below rows levels n k and p k

    -- none of them has a number up to n, or starts at or behind the end of n
    up_to : (k : ℕ) → k < size → k ≤ n → sought k ≡ false
    up_to k h g = split k n
        (λ q. rw (eq-eqb k n q, and_false (eqb (ancestor_in rows levels k) n)))
        (λ q.
        let a : ancestor_in rows levels k ≡ n → ⊥ = λ e. omega (arith, (above levels k h).0, e) in
        rw (ne_eqb (ancestor_in rows levels k) n a))

    behind : (k : ℕ) → k < size → after_of rows n ≤ first_of rows k → sought k ≡ false
    behind k h g =
        let a : ancestor_in rows levels k ≡ n → ⊥ = λ e. omega (arith, (rw e at (above levels k h).1), o.ends k h) in
        rw (ne_eqb (ancestor_in rows levels k) n a)

    -- behind n it is enough to ask for the ancestor
    asked : (k : ℕ) → n < k → sought k ≡ (eqb (ancestor_in rows levels k) n and p k)
    asked k g =
        let a : k ≡ n → ⊥ = λ e. omega arith in
        rw (ne_eqb k n a) (shorter (eqb (ancestor_in rows levels k) n) (p k))
      where
        shorter : (a b : Bool) → (a and true) and b ≡ a and b
        shorter true b = refl
        shorter false b = refl

    none : (m k : ℕ) → k + m ≡ size → ((j : ℕ) → k ≤ j → j < size → sought j ≡ false) → those sought k m ≡ []
    unfolding those
    none zero k e f = refl
    none (suc m) k e f =
        let q = f k (omega arith) (omega arith) in
        let r = none m (k + 1) (omega arith) (λ j a b. f j (omega arith) b) in
        rw q r

    same : (m k : ℕ) → k + m ≡ size → n < k → within rows levels p n k m ≡ those sought k m
    unfolding within those
    same zero k e g = refl
    same (suc m) k e g =
        let i : k < size = omega arith in
        let q = asked k g in
        let r = same m (k + 1) (omega arith) (omega arith) in
        less (first_of rows k) (after_of rows n)
        (λ a. rw (lt-ltb (first_of rows k) (after_of rows n) a, q, r))
        (λ a. rw (le-ltb (first_of rows k) (after_of rows n) a)
        (sym (none (suc m) k e (λ j b c. behind j c (omega (arith, a, later j b c))))))
      where
        later : (j : ℕ) → k ≤ j → j < size → first_of rows k ≤ first_of rows j
        later j b c = split k j
            (λ q. rw q (omega arith))
            (λ q.
            let x : k < j = omega arith in
            omega (arith, o.rises k j x c))

    skip : (m k : ℕ) → k + m ≡ size → k ≤ n + 1 → those sought k m ≡ those sought (n + 1) (size - (n + 1))
    unfolding those
    skip zero k e g =
        let b : size - (n + 1) ≡ 0 = omega arith in
        rw b
    skip (suc m) k e g = split k (n + 1)
        (λ q.
        let b : size - (n + 1) ≡ suc m = omega arith in
        rw (q, b))
        (λ q.
        let z = up_to k (omega arith) (omega arith) in
        let r = skip m (k + 1) (omega arith) (omega arith) in
        rw z r)

    all_found : searched rows levels p n ≡ all_below rows levels p n
    unfolding searched searched_from all_below within those
    all_found = rw its_size (from (size - (n + 1)) refl ∙ sym (skip size 0 (omega arith) (omega arith)))
      where
        from : (m : ℕ) → size - (n + 1) ≡ m → within rows levels p n (n + 1) m ≡ those sought (n + 1) m
        from zero e = refl
        from (suc m) e = same (suc m) (n + 1) (omega arith) (omega arith)

  pub draft_full : (s : List ℕ) → draft s rows ≡ full_draft s rows
  unfolding draft full_draft
  draft_full s = ap (λ (f : ℕ → (ℕ → Bool) → ℕ → List ℕ). record { bytes = s; notes = rows; below = f }) (fun_ext (λ levels. fun_ext (λ p. fun_ext (λ n. all_found levels p n))))
