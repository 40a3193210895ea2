-- The rows of a reading are in document order, and stay so at each piece. An element that is still open may end before its children do: its
-- last number is not its own yet.
-- Assumes nothing.
use mathlib.Core.Path.{◌≡◌, refl, sym, ◌∙◌}
use mathlib.Core.Bool.{Bool, true, false}
use mathlib.Core.List.{List, ◌++◌}
use Prim.Native.Nat.{ℕ, zero, suc, ◌+◌, ◌-◌, ◌*◌, ◌<◌, ◌≤◌}
use native.Mathlib.Omega.{arith}
use borrow.Author.Tests.{eq-eqb, ne_eqb, eqb-true, eqb-false}
use lib.Dec.{eqb}
use lib.ListN.{set}
use Rattle.text_scan.specs.Choice.{not}
use Rattle.text_scan.proofs.Tests.{never, and_right, or_left, or_right}
use Rattle.text_scan.proofs.Within.{inside}
use Rattle.xml_steps.specs.Reading.{Reading, fresh, element_row, parent_of, first_of, after_of, passed, added, closed}
use Rattle.xml_steps.specs.Walked.{Sound}
use Rattle.xml_nesting.proofs.Open.{is_open, at_level, open_same, level_same, old_parent, old_first, old_after, new_parent, new_first, new_after, set_parent, set_first, set_after, set_its_after}

pub record InOrder (r : Reading) : Type 0 where
  pub earlier : (k : ℕ) → 0 < k → k < r.count → parent_of r.rows k < k
  pub rises : (i k : ℕ) → i < k → k < r.count → first_of r.rows i < first_of r.rows k
  pub ends : (k : ℕ) → k < r.count → first_of r.rows k < after_of r.rows k
  pub nested : (k : ℕ) → 0 < k → k < r.count → is_open r.rows r.depth r.top (parent_of r.rows k) ≡ false → after_of r.rows k ≤ after_of r.rows (parent_of r.rows k)
  pub level : (d : ℕ) → r.depth ≡ suc d → at_level r.rows d r.top ≡ true

pub fresh_order : InOrder fresh
fresh_order =
    record {
      earlier = λ k h g. absurd (omega arith);
      rises = λ i k h g. absurd (omega arith);
      ends = λ k h. absurd (omega arith);
      nested = λ k h g e. absurd (omega arith);
      level = λ d e. absurd (omega arith);
    }

pub passed_order : (r : Reading) (j : ℕ) → InOrder r → InOrder (passed r j)
passed_order r j w = record { earlier = w.earlier; rises = w.rises; ends = w.ends; nested = w.nested; level = w.level }

-- two numbers are the same, or not
split : (a b : ℕ) {A : Type 0} → (a ≡ b → A) → ((a ≡ b → ⊥) → A) → A
split a b {A} f g = go (eqb a b) refl
  where
    go : (t : Bool) → eqb a b ≡ t → A
    go true q = f (eqb-true a b q)
    go false q = g (eqb-false a b q)

-- the innermost open element is open
top_open : (rows : List ℕ) (depth top : ℕ) → 0 < depth → is_open rows depth top top ≡ false → ⊥
top_open rows zero top h e = omega arith
top_open rows (suc depth) top h e =
    never (sym (eq-eqb top top refl) ∙ or_left (eqb top top) (is_open rows depth (parent_of rows top) top) e)

-- ---- an element more
module _ (n : ℕ) (r : Reading) (j : ℕ) (d : Sound n r) (w : InOrder r) (ahead : r.at < j) where
  first_low : (k : ℕ) → k < r.count → first_of r.rows k < r.at
  first_low k h = omega (arith, w.ends k h, d.low (4 * k + 3))

  -- after which so many are open, the innermost of number `top`
  module _ (depth top : ℕ)
      (less : (p : ℕ) → p < r.count → is_open (r.rows ++ element_row r.count r.top r.at j) depth top p ≡ false → is_open r.rows r.depth r.top p ≡ false)
      (covers : 0 < r.count → is_open (r.rows ++ element_row r.count r.top r.at j) depth top r.top ≡ false → ⊥)
      (levels : (e : ℕ) → depth ≡ suc e → at_level (r.rows ++ element_row r.count r.top r.at j) e top ≡ true) where
    added_order : InOrder (added r j depth top)
    added_order =
        record {
          earlier = λ k h g. inside r.count k
              (λ l. rw (old_parent r.rows r.count r.top r.at j d.wide k l) (w.earlier k h l))
              (λ l.
              let q : k ≡ r.count = omega arith in
              rw (q, new_parent r.rows r.count r.top r.at j d.wide) (omega (arith, d.inner)));
          rises = λ i k h g. inside r.count k
              (λ l.
              let m : i < r.count = omega arith in
              rw (old_first r.rows r.count r.top r.at j d.wide k l, old_first r.rows r.count r.top r.at j d.wide i m) (w.rises i k h l))
              (λ l.
              let q : k ≡ r.count = omega arith in
              let m : i < r.count = omega arith in
              rw (q, new_first r.rows r.count r.top r.at j d.wide, old_first r.rows r.count r.top r.at j d.wide i m) (first_low i m));
          ends = λ k h. inside r.count k
              (λ l. rw (old_first r.rows r.count r.top r.at j d.wide k l, old_after r.rows r.count r.top r.at j d.wide k l) (w.ends k l))
              (λ l.
              let q : k ≡ r.count = omega arith in
              rw (q, new_first r.rows r.count r.top r.at j d.wide, new_after r.rows r.count r.top r.at j d.wide) ahead);
          nested = λ k h g. inside r.count k
              (λ l.
              let m : parent_of r.rows k < r.count = omega (arith, w.earlier k h l) in
              rw (old_parent r.rows r.count r.top r.at j d.wide k l, old_after r.rows r.count r.top r.at j d.wide k l, old_after r.rows r.count r.top r.at j d.wide (parent_of r.rows k) m)
              (λ e. w.nested k h l (less (parent_of r.rows k) m e)))
              (λ l.
              let q : k ≡ r.count = omega arith in
              let m : 0 < r.count = omega arith in
              rw (q, new_parent r.rows r.count r.top r.at j d.wide) (λ e. absurd (covers m e)));
          level = levels;
        }

  module _ (deep : 0 < r.count → 0 < r.depth) where
    parents : (k : ℕ) → k < r.count → parent_of (r.rows ++ element_row r.count r.top r.at j) k ≡ parent_of r.rows k
    parents = old_parent r.rows r.count r.top r.at j d.wide

    opens : (depth k : ℕ) → 0 < r.count → is_open (r.rows ++ element_row r.count r.top r.at j) depth r.top k ≡ is_open r.rows depth r.top k
    opens depth k h = open_same r.rows _ r.count parents d.above depth r.top k (omega (arith, d.inner))

    levels : (e : ℕ) → r.depth ≡ suc e → at_level (r.rows ++ element_row r.count r.top r.at j) e r.top ≡ true
    levels e q = level_same r.rows _ r.count parents d.above e r.top (omega (arith, d.inner, d.shallow)) ∙ w.level e q

    pub empty_order : InOrder (added r j r.depth r.top)
    empty_order =
        added_order r.depth r.top
        (λ p h e. sym (opens r.depth p (omega arith)) ∙ e)
        (λ h e. top_open r.rows r.depth r.top (deep h) (sym (opens r.depth r.top h) ∙ e))
        levels

    -- where the new element is the innermost, the others are open as before
    below_new : (p : ℕ) → is_open (r.rows ++ element_row r.count r.top r.at j) (r.depth + 1) r.count p ≡ false → is_open (r.rows ++ element_row r.count r.top r.at j) r.depth r.top p ≡ false
    below_new p e =
        let q : r.depth + 1 ≡ suc r.depth = omega arith in
        let f = or_right (eqb p r.count) _ (rw q at e) in
        rw (new_parent r.rows r.count r.top r.at j d.wide) at f

    new_level : (c e : ℕ) → r.depth ≡ e → c ≡ r.count → at_level (r.rows ++ element_row r.count r.top r.at j) e c ≡ true
    new_level c zero q f = eq-eqb c 0 (split c 0 (λ z. z) (λ z. absurd (omega (arith, deep (omega arith)))))
    new_level c (suc e) q f =
        let z : c ≡ 0 → ⊥ = λ y. omega (arith, d.shallow) in
        rw (ne_eqb c 0 z, f, new_parent r.rows r.count r.top r.at j d.wide) (levels e q)

    pub start_order : InOrder (added r j (r.depth + 1) r.count)
    start_order =
        added_order (r.depth + 1) r.count
        (λ p h e. sym (opens r.depth p (omega arith)) ∙ below_new p e)
        (λ h e. top_open r.rows r.depth r.top (deep h) (sym (opens r.depth r.top h) ∙ below_new r.top e))
        (λ e q. new_level r.count e (omega arith) refl)

  -- ---- the innermost open element closed
  module _ (deep : 0 < r.depth) where
    top_there : r.top < r.count
    top_there = omega (arith, d.inner, d.shallow)

    its_after : after_of (set r.rows (4 * r.top + 3) j) r.top ≡ j
    its_after = set_its_after r.rows r.top j (omega (arith, d.wide, top_there))

    open_before : (depth p : ℕ) → r.depth ≡ suc depth → (p ≡ r.top → ⊥) → is_open (set r.rows (4 * r.top + 3) j) depth (parent_of r.rows r.top) p ≡ false → is_open r.rows r.depth r.top p ≡ false
    open_before depth p q h e =
        rw (q, ne_eqb p r.top h)
        (sym (open_same r.rows _ r.count (λ k _. set_parent r.rows r.top j k) d.above depth (parent_of r.rows r.top) p (omega (arith, d.above r.top, top_there))) ∙ e)

    -- the parent of the closed element is open still, unless that is the root
    root_closed : (depth : ℕ) → r.depth ≡ suc depth → 0 < r.top → is_open (set r.rows (4 * r.top + 3) j) depth (parent_of r.rows r.top) (parent_of r.rows r.top) ≡ false → ⊥
    root_closed zero q h e = absurd (omega (arith, eqb-true r.top 0 (w.level 0 q)))
    root_closed (suc depth) q h e = top_open (set r.rows (4 * r.top + 3) j) (suc depth) (parent_of r.rows r.top) (omega arith) e

    closed_nested : (depth k : ℕ) → r.depth ≡ suc depth → 0 < k → k < r.count → is_open (set r.rows (4 * r.top + 3) j) depth (parent_of r.rows r.top) (parent_of r.rows k) ≡ false → after_of (set r.rows (4 * r.top + 3) j) k ≤ after_of (set r.rows (4 * r.top + 3) j) (parent_of r.rows k)
    closed_nested depth k q h g e = split (parent_of r.rows k) r.top
        (λ z.
        let y : k ≡ r.top → ⊥ = λ x. omega (arith, w.earlier k h g) in
        rw (z, its_after, set_after r.rows r.top j k y) (omega (arith, d.low (4 * k + 3))))
        (λ z. split k r.top
        (λ x. absurd (root_closed depth q (omega arith) (rw x at e)))
        (λ x. rw (set_after r.rows r.top j k x, set_after r.rows r.top j (parent_of r.rows k) z) (w.nested k h g (open_before depth (parent_of r.rows k) q z e))))

    pub closed_order : InOrder (closed r j)
    closed_order =
        record {
          earlier = λ k h g. rw (set_parent r.rows r.top j k) (w.earlier k h g);
          rises = λ i k h g. rw (set_first r.rows r.top j i, set_first r.rows r.top j k) (w.rises i k h g);
          ends = λ k h. rw (set_first r.rows r.top j k) (split k r.top
              (λ z. rw (z, its_after) (omega (arith, first_low r.top top_there)))
              (λ z. rw (set_after r.rows r.top j k z) (w.ends k h)));
          nested = λ k h g. rw (set_parent r.rows r.top j k) (closed_nested (r.depth - 1) k (omega arith) h g);
          level = λ e q.
              let z : r.depth ≡ suc (suc e) = omega arith in
              level_same r.rows _ r.count (λ k _. set_parent r.rows r.top j k) d.above e (parent_of r.rows r.top) (omega (arith, d.above r.top, top_there))
              ∙ and_right (not (eqb r.top 0)) _ (w.level (suc e) z);
        }
