-- The role of an element whose parent's role is known: one law for each branch of the code.
-- Assumes nothing.
use mathlib.Core.Path.{◌≡◌, refl, sym, ◌∙◌, ap}
use mathlib.Core.List.{List}
use mathlib.Core.Bool.{false}
use Prim.Native.Nat.{ℕ, ◌+◌, ◌-◌, ◌*◌, ◌/◌, ◌<◌, ◌≤◌}
use native.Mathlib.Omega.{arith}
use borrow.Author.Tests.{lt-ltb, le-ltb}
use lib.Dec.{ltb}
use lib.ListN.{length, take, drop, get_or}
use Rattle.xml_names.specs.Names.{name_end}
use Rattle.xml_steps.specs.Reading.{parent_of}
use Rattle.judge_paths.specs.declared.DocumentType.{DocumentType}
use Rattle.judge_paths.specs.Roles.{Unknown}
use Rattle.judge_paths.specs.Paths.{child_role, role_of}
use Rattle.judge_paths.proofs.Walks.{row_past, row_late, row_there, name_below, role_none, role_child}

pub below_none : (s rows : List ℕ) (t : DocumentType) (n : ℕ) → (n ≡ 0 → ⊥) → length rows / 4 ≤ n → Unknown ≡ role_of s rows t n
below_none s rows t n z h = role_none s rows t n z false (row_past s rows n h) refl

module _ (s rows : List ℕ) (t : DocumentType) (n : ℕ) (h : n < length rows / 4) (z : n ≡ 0 → ⊥) (p : ℕ) (q : p ≡ get_or rows (4 * n + 1) 0) where
  pub below_late : n ≤ p → Unknown ≡ role_of s rows t n
  below_late g = role_none s rows t n z false (row_late s rows n h p q g) refl

  module _ (g : p < n) (f : ℕ) (i : f ≡ get_or rows (4 * n + 2) 0) where
    pub below_past : length s ≤ f → Unknown ≡ role_of s rows t n
    below_past j = role_none s rows t n z (ltb f (length s)) (row_there s rows n h p q g f i) (le-ltb f (length s) j)

    -- a parent that is not known has no known children
    pub below_unknown : f < length s → (a : ℕ) → a ≡ role_of s rows t (parent_of rows n) → a < 2 → Unknown ≡ role_of s rows t n
    unfolding child_role
    below_unknown j a k v =
        let w : a ≤ 1 = omega arith in
        role_child s rows t n z (ltb f (length s)) (row_there s rows n h p q g f i) (lt-ltb f (length s) j) p q a Unknown
        (k ∙ ap (role_of s rows t) (sym q)) (rw (le-ltb 1 a w))

    pub below_named : f < length s → (a : ℕ) → a ≡ role_of s rows t (parent_of rows n) → (e : ℕ) → e ≡ name_end s (f + 1) → (r : ℕ) → r ≡ child_role t a (take (e - (f + 1)) (drop (f + 1) s)) → r ≡ role_of s rows t n
    below_named j a k e l r m =
        role_child s rows t n z (ltb f (length s)) (row_there s rows n h p q g f i) (lt-ltb f (length s) j) p q a r
        (k ∙ ap (role_of s rows t) (sym q)) (name_below s rows n t a r f e i l m)

-- a parent whose role was asked for
pub same_parent : (s rows : List ℕ) (t : DocumentType) (p a : ℕ) → a ≡ role_of s rows t p → (n : ℕ) → n ≡ p → a ≡ role_of s rows t n
same_parent s rows t p a e n f = e ∙ ap (role_of s rows t) (sym f)

pub new_parent : (s rows : List ℕ) (t : DocumentType) (p a : ℕ) → a ≡ role_of s rows t p → (n : ℕ) → p ≡ get_or rows (4 * n + 1) 0 → a ≡ role_of s rows t (parent_of rows n)
new_parent s rows t p a e n f = e ∙ ap (role_of s rows t) f
