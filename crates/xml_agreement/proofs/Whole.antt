-- Each element of a document that is read is an empty-element tag; or a start tag, a content without tags within the limit and the end tag of the
-- same name; or it has a child element. What is known of the open elements on the way.
-- Assumes nothing.
use Rattle.std.specs.Prelude.{Ok}
use mathlib.Core.Path.{◌≡◌, refl, sym, ◌∙◌, ap, subst}
use mathlib.Core.Bool.{Bool, true, false}
use mathlib.Core.List.{List, ◌++◌}
use Prim.Native.Nat.{ℕ, zero, suc, ◌+◌, ◌-◌, ◌*◌, ◌<◌, ◌≤◌}
use native.Mathlib.Omega.{arith}
use borrow.Author.Tests.{eq-eqb, ne_eqb, eqb-true, eqb-false, leb-true, ltb-true}
use lib.Dec.{eqb, leb, ltb}
use lib.ListN.{length, set}
use Rattle.text_scan.specs.Choice.{◌or◌, ◌and◌, not}
use Rattle.text_scan.proofs.Tests.{never}
use Rattle.text_scan.proofs.Within.{inside}
use Rattle.text_facts.specs.Strings.{equal}
use Rattle.xml_reader.specs.Limits.{value_limit}
use Rattle.xml_names.specs.Names.{name_at}
use Rattle.xml_attributes.specs.declared.Tag.TheVariants.{Start as Opens, Empty as Stands}
use Rattle.xml_tags.specs.Tags.{tag_at}
use Rattle.xml_steps.specs.Reading.{Reading, fresh, element_row, parent_of, first_of, after_of, passed, added, closed, is_named, content_fits}
use Rattle.xml_steps.specs.Walked.{Sound}
use Rattle.xml_nesting.proofs.Open.{is_open, at_level, open_same, old_parent, old_first, old_after, new_parent, new_first, new_after, set_parent, set_first, set_after, set_its_after}
use Rattle.xml_nesting.proofs.InOrder.{InOrder}
use Rattle.xml_agreement.proofs.Reach.{Reach, reach_here, reach_join, EndsAt, Parent, parent_later}

pub data Whole (s : List ℕ) (first after : ℕ) : Type 0 where
  empty : tag_at s first ≡ Ok (Stands after) → Whole s first after
  simple : (a e : ℕ) → tag_at s first ≡ Ok (Opens a) → Reach s a e → EndsAt s e after → equal (name_at s (first + 1)) (name_at s (e + 2)) ≡ true → e - a ≤ value_limit → Whole s first after
  parent : (a : ℕ) → tag_at s first ≡ Ok (Opens a) → Parent s a after → Whole s first after

-- an open element: the innermost has no child yet, or it has one
pub data Opened (s : List ℕ) (r : Reading) (k : ℕ) : Type 0 where
  plain : k ≡ r.top → r.top + 1 ≡ r.count → tag_at s (first_of r.rows k) ≡ Ok (Opens (after_of r.rows k)) → Reach s (after_of r.rows k) r.at → Opened s r k
  nested : tag_at s (first_of r.rows k) ≡ Ok (Opens (after_of r.rows k)) → Parent s (after_of r.rows k) r.at → Opened s r k

pub record State (s : List ℕ) (r : Reading) : Type 0 where
  pub done : (k : ℕ) → k < r.count → is_open r.rows r.depth r.top k ≡ false → Whole s (first_of r.rows k) (after_of r.rows k)
  pub opened : (k : ℕ) → k < r.count → is_open r.rows r.depth r.top k ≡ true → Opened s r k

pub fresh_state : (s : List ℕ) → State s fresh
fresh_state s = record { done = λ k h e. absurd (omega arith); opened = λ k h e. absurd (omega arith) }

open_deep : (rows : List ℕ) (depth top k : ℕ) → is_open rows depth top k ≡ true → 0 < depth
open_deep rows zero top k e = never (sym e)
open_deep rows (suc depth) top k e = omega arith

-- open elements have no higher number than the innermost
open_low : (rows : List ℕ) → ((k : ℕ) → parent_of rows k ≤ k) → (depth top k : ℕ) → is_open rows depth top k ≡ true → k ≤ top
open_low rows above zero top k e = never (sym e)
open_low rows above (suc depth) top k e = go (eqb k top) refl e (open_low rows above depth (parent_of rows top) k)
  where
    go : (t : Bool) → eqb k top ≡ t → t or is_open rows depth (parent_of rows top) k ≡ true → (is_open rows depth (parent_of rows top) k ≡ true → k ≤ parent_of rows top) → k ≤ top
    go true q f next = omega (arith, eqb-true k top q)
    go false q f next = omega (arith, next f, above top)

-- the root stands on no level but the first
root_level : (rows : List ℕ) (d k : ℕ) → k ≡ 0 → at_level rows d k ≡ true → d ≡ 0
root_level rows zero k z e = refl
root_level rows (suc d) k z e = never (sym e ∙ ap (λ (b : Bool). not b and at_level rows d (parent_of rows k)) (eq-eqb k 0 z))

module _ (s : List ℕ) (r : Reading) (j : ℕ) (d : Sound (length s) r) (lt : r.at < j) (q : State s r) where
  -- ---- a piece that is no tag
  pub passed_state : (0 < r.depth → Reach s r.at j) → State s (passed r j)
  passed_state more = record { done = q.done; opened = λ k l o. go k (q.opened k l o) (more (open_deep r.rows r.depth r.top k o)) }
    where
      go : (k : ℕ) → Opened s r k → Reach s r.at j → Opened s (passed r j) k
      go k (plain a b c x) z = plain a b c (reach_join s (after_of r.rows k) r.at j x z)
      go k (nested c x) z = nested c (parent_later s (after_of r.rows k) r.at j (omega arith) x)

  -- ---- a tag
  abbrev rows' : List ℕ
  rows' = r.rows ++ element_row r.count r.top r.at j

  opens : (k : ℕ) → 0 < r.count → is_open rows' r.depth r.top k ≡ is_open r.rows r.depth r.top k
  opens k h =
      open_same r.rows rows' r.count (old_parent r.rows r.count r.top r.at j d.wide) d.above r.depth r.top k (omega (arith, d.inner))

  module _ (child : 0 < r.depth → (a : ℕ) → Reach s a r.at → Parent s a j) where
    still_done : (k : ℕ) → k < r.count → is_open r.rows r.depth r.top k ≡ false → Whole s (first_of rows' k) (after_of rows' k)
    still_done k h o =
        rw (old_first r.rows r.count r.top r.at j d.wide k h, old_after r.rows r.count r.top r.at j d.wide k h) (q.done k h o)

    still_open : (k : ℕ) → k < r.count → is_open r.rows r.depth r.top k ≡ true → (depth top : ℕ) → Opened s (added r j depth top) k
    still_open k h o depth top = go (q.opened k h o)
      where
        e : first_of rows' k ≡ first_of r.rows k
        e = old_first r.rows r.count r.top r.at j d.wide k h

        f : after_of rows' k ≡ after_of r.rows k
        f = old_after r.rows r.count r.top r.at j d.wide k h

        go : Opened s r k → Opened s (added r j depth top) k
        go (plain a b c x) = nested (rw (e, f) c) (rw f (child (open_deep r.rows r.depth r.top k o) (after_of r.rows k) x))
        go (nested c x) = nested (rw (e, f) c) (rw f (parent_later s (after_of r.rows k) r.at j (omega arith) x))

    pub empty_state : tag_at s r.at ≡ Ok (Stands j) → State s (added r j r.depth r.top)
    empty_state t =
        record {
          done = λ k h o. inside r.count k (λ l. still_done k l (sym (opens k (omega arith)) ∙ o))
              (λ l.
              let z : k ≡ r.count = omega arith in
              rw (z, new_first r.rows r.count r.top r.at j d.wide, new_after r.rows r.count r.top r.at j d.wide) (empty t));
          opened = λ k h o. inside r.count k (λ l. still_open k l (sym (opens k (omega arith)) ∙ o) r.depth r.top)
              (λ l. absurd (new_shut k (omega arith) o));
        }
      where
        new_shut : (k : ℕ) → k ≡ r.count → is_open rows' r.depth r.top k ≡ true → ⊥
        new_shut k z o =
            let deep : 0 < r.count = omega (arith, open_deep rows' r.depth r.top k o, d.shallow) in
            omega (arith, d.inner, open_low r.rows d.above r.depth r.top k (sym (opens k deep) ∙ o))

    pub start_state : tag_at s r.at ≡ Ok (Opens j) → State s (added r j (r.depth + 1) r.count)
    start_state t =
        record {
          done = λ k h o. inside r.count k (λ l. still_done k l (sym (old k l) ∙ o)) (λ l. never (sym (new k (omega arith)) ∙ o));
          opened = λ k h o. inside r.count k (λ l. still_open k l (sym (old k l) ∙ o) (r.depth + 1) r.count)
              (λ l.
              let z : k ≡ r.count = omega arith in
              subst (Opened s (added r j (r.depth + 1) r.count)) (sym z)
              (plain refl refl
              (rw (new_first r.rows r.count r.top r.at j d.wide, new_after r.rows r.count r.top r.at j d.wide) t)
              (rw (new_after r.rows r.count r.top r.at j d.wide) (reach_here s j))));
        }
      where
        inner : (k : ℕ) → is_open rows' (r.depth + 1) r.count k ≡ eqb k r.count or is_open rows' r.depth r.top k
        inner k =
            let z : r.depth + 1 ≡ suc r.depth = omega arith in
            ap (λ (m : ℕ). is_open rows' m r.count k) z
            ∙ ap (λ (m : ℕ). eqb k r.count or is_open rows' r.depth m k) (new_parent r.rows r.count r.top r.at j d.wide)

        old : (k : ℕ) → k < r.count → is_open rows' (r.depth + 1) r.count k ≡ is_open r.rows r.depth r.top k
        old k l =
            inner k ∙ ap (λ (b : Bool). b or is_open rows' r.depth r.top k) (ne_eqb k r.count (λ z. omega arith)) ∙ opens k (omega arith)

        new : (k : ℕ) → k ≡ r.count → is_open rows' (r.depth + 1) r.count k ≡ true
        new k z = inner k ∙ ap (λ (b : Bool). b or is_open rows' r.depth r.top k) (eq-eqb k r.count z)

  -- ---- an end tag
  abbrev rows'' : List ℕ
  rows'' = set r.rows (4 * r.top + 3) j

  module _ (w : InOrder r) (deep : 0 < r.depth) (ends : EndsAt s r.at j) (named : is_named s r ≡ true) (small : content_fits r ≡ true) where
    there : r.top < r.count
    there = omega (arith, d.inner, d.shallow)

    shut : (k : ℕ) → is_open rows'' (r.depth - 1) (parent_of r.rows r.top) k ≡ is_open r.rows (r.depth - 1) (parent_of r.rows r.top) k
    shut k =
        open_same r.rows rows'' r.count (λ m _. set_parent r.rows r.top j m) d.above (r.depth - 1) (parent_of r.rows r.top) k (omega (arith, d.above r.top, there))

    before : (k : ℕ) → is_open r.rows r.depth r.top k ≡ eqb k r.top or is_open r.rows (r.depth - 1) (parent_of r.rows r.top) k
    before k =
        let z : r.depth ≡ suc (r.depth - 1) = omega arith in
        ap (λ (m : ℕ). is_open r.rows m r.top k) z

    -- the element that is closed is open no more
    top_shut : is_open r.rows (r.depth - 1) (parent_of r.rows r.top) r.top ≡ true → ⊥
    top_shut o = inside 1 r.top
        (λ l.
        let z : r.top ≡ 0 = omega arith in
        root z)
        (λ l. omega (arith, open_low r.rows d.above (r.depth - 1) (parent_of r.rows r.top) r.top o, w.earlier r.top (omega arith) there))
      where
        root : r.top ≡ 0 → ⊥
        root z = omega (arith, root_level r.rows (r.depth - 1) r.top z (w.level (r.depth - 1) (omega arith)), open_deep r.rows (r.depth - 1) (parent_of r.rows r.top) r.top o)

    its_after : after_of rows'' r.top ≡ j
    its_after = set_its_after r.rows r.top j (omega (arith, d.wide, there))

    fits : r.top + 1 ≡ r.count → r.at - after_of r.rows r.top ≤ value_limit
    fits e = go (ltb (r.top + 1) r.count) refl small
      where
        go : (t : Bool) → ltb (r.top + 1) r.count ≡ t → t or leb (r.at - after_of r.rows r.top) value_limit ≡ true → r.at - after_of r.rows r.top ≤ value_limit
        go true y z = absurd (omega (arith, ltb-true (r.top + 1) r.count y))
        go false y z = leb-true (r.at - after_of r.rows r.top) value_limit z

    top_done : Whole s (first_of r.rows r.top) j
    top_done = go (q.opened r.top there (before r.top ∙ ap (λ (b : Bool). b or is_open r.rows (r.depth - 1) (parent_of r.rows r.top) r.top) (eq-eqb r.top r.top refl)))
      where
        go : Opened s r r.top → Whole s (first_of r.rows r.top) j
        go (plain a b c x) = simple (after_of r.rows r.top) r.at c x ends named (fits b)
        go (nested c x) = parent (after_of r.rows r.top) c (parent_later s (after_of r.rows r.top) r.at j (omega arith) x)

    split : (k : ℕ) {A : Type 0} → (k ≡ r.top → A) → ((k ≡ r.top → ⊥) → A) → A
    split k {A} f g = go (eqb k r.top) refl
      where
        go : (t : Bool) → eqb k r.top ≡ t → A
        go true y = f (eqb-true k r.top y)
        go false y = g (eqb-false k r.top y)

    other : (k : ℕ) → (k ≡ r.top → ⊥) → is_open rows'' (r.depth - 1) (parent_of r.rows r.top) k ≡ is_open r.rows r.depth r.top k
    other k z = shut k ∙ sym (before k ∙ ap (λ (b : Bool). b or is_open r.rows (r.depth - 1) (parent_of r.rows r.top) k) (ne_eqb k r.top z))

    pub closed_state : State s (closed r j)
    closed_state =
        record {
          done = λ k h o. split k
              (λ z. subst (λ (m : ℕ). Whole s (first_of rows'' m) (after_of rows'' m)) (sym z) (rw (set_first r.rows r.top j r.top, its_after) top_done))
              (λ z. rw (set_first r.rows r.top j k, set_after r.rows r.top j k z) (q.done k h (sym (other k z) ∙ o)));
          opened = λ k h o. split k
              (λ z. absurd (top_shut (sym (shut r.top) ∙ subst (λ (m : ℕ). is_open rows'' (r.depth - 1) (parent_of r.rows r.top) m ≡ true) z o)))
              (λ z. still k z (q.opened k h (sym (other k z) ∙ o)));
        }
      where
        still : (k : ℕ) → (k ≡ r.top → ⊥) → Opened s r k → Opened s (closed r j) k
        still k z (plain a b c x) = absurd (z a)
        still k z (nested c x) =
            nested (rw (set_first r.rows r.top j k, set_after r.rows r.top j k z) c)
            (rw (set_after r.rows r.top j k z) (parent_later s (after_of r.rows k) r.at j (omega arith) x))
