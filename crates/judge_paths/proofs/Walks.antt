-- From an element to its parent: the role of an element is told by its parent's role, however many elements stand above.
-- Assumes nothing.
use mathlib.Core.Path.{◌≡◌, refl, sym, ◌∙◌, ap}
use mathlib.Core.Bool.{Bool, true, false}
use mathlib.Core.List.{List}
use Prim.Native.Nat.{ℕ, zero, suc, ◌+◌, ◌-◌, ◌*◌, ◌/◌, ◌<◌, ◌≤◌}
use native.Mathlib.Omega.{arith}
use borrow.Author.Tests.{lt-ltb, le-ltb, ltb-true, eq-eqb, ne_eqb}
use lib.Dec.{eqb, ltb}
use lib.ListN.{length, take, drop, get_or}
use Rattle.text_scan.specs.Choice.{pick, ◌and◌}
use Rattle.text_scan.proofs.Tests.{and_left, and_right}
use Rattle.xml_names.specs.Names.{name_end}
use Rattle.xml_steps.specs.Reading.{parent_of, first_of}
use Rattle.judge_paths.specs.declared.DocumentType.{DocumentType}
use Rattle.judge_paths.specs.Roles.{Unknown, Root}
use Rattle.judge_paths.specs.Paths.{child_role, has_row, element_name, role_within, role_of}

-- ---- the row of an element
module _ (s rows : List ℕ) (n : ℕ) where
  pub row_past : length rows / 4 ≤ n → false ≡ has_row s rows n
  row_past h = rw (le-ltb n (length rows / 4) h)

  module _ (h : n < length rows / 4) (p : ℕ) (e : p ≡ get_or rows (4 * n + 1) 0) where
    pub row_late : n ≤ p → false ≡ has_row s rows n
    row_late g = rw (lt-ltb n (length rows / 4) h, ← e, le-ltb p n g)

    pub row_there : p < n → (f : ℕ) → f ≡ get_or rows (4 * n + 2) 0 → ltb f (length s) ≡ has_row s rows n
    row_there g f q = rw (lt-ltb n (length rows / 4) h, ← e, lt-ltb p n g, ← q)

  pub parent_earlier : has_row s rows n ≡ true → parent_of rows n < n
  parent_earlier e =
      ltb-true (parent_of rows n) n
      (and_left (ltb (parent_of rows n) n) (ltb (first_of rows n) (length s))
      (and_right (ltb n (length rows / 4)) (ltb (parent_of rows n) n and ltb (first_of rows n) (length s)) e))

-- the name behind the first byte
pub name_below : (s rows : List ℕ) (n : ℕ) (kind : DocumentType) (parent r : ℕ) (f e : ℕ) → f ≡ get_or rows (4 * n + 2) 0 → e ≡ name_end s (f + 1) → r ≡ child_role kind parent (take (e - (f + 1)) (drop (f + 1) s)) → r ≡ child_role kind parent (element_name s rows n)
name_below s rows n kind parent r f e q g h = rw (← q, ← g) h

-- ---- a higher bound changes nothing, so the role of an element is told by its parent's role
module _ (s rows : List ℕ) (t : DocumentType) where
  -- what is told of the parent's role is the same where the parent's role is, if there is a row
  by_row : (n : ℕ) (a b : ℕ) → (has_row s rows n ≡ true → a ≡ b) → pick (has_row s rows n) (child_role t a (element_name s rows n)) Unknown ≡ pick (has_row s rows n) (child_role t b (element_name s rows n)) Unknown
  by_row n a b f = go (has_row s rows n) f
    where
      go : (h : Bool) → (h ≡ true → a ≡ b) → pick h (child_role t a (element_name s rows n)) Unknown ≡ pick h (child_role t b (element_name s rows n)) Unknown
      go true f = ap (λ (r : ℕ). child_role t r (element_name s rows n)) (f refl)
      go false f = refl

  pub enough : (k j n : ℕ) → n ≤ k → n ≤ j → role_within s rows t k n ≡ role_within s rows t j n
  unfolding role_within
  enough zero zero n h g = refl
  enough zero (suc j) n h g =
      let z : n ≡ 0 = omega arith in
      rw (eq-eqb n 0 z)
  enough (suc k) zero n h g =
      let z : n ≡ 0 = omega arith in
      rw (eq-eqb n 0 z)
  enough (suc k) (suc j) n h g =
      ap (pick (eqb n 0) Root) (by_row n _ _ (λ e. enough k j (parent_of rows n) (omega (arith, parent_earlier s rows n e)) (omega (arith, parent_earlier s rows n e))))

  pub role_root : (n : ℕ) → n ≡ 0 → Root ≡ role_of s rows t n
  unfolding role_of role_within
  role_root zero e = refl
  role_root (suc n) e = absurd (omega arith)

  pub role_told : (n : ℕ) → (n ≡ 0 → ⊥) → role_of s rows t n ≡ pick (has_row s rows n) (child_role t (role_of s rows t (parent_of rows n)) (element_name s rows n)) Unknown
  unfolding role_of role_within
  role_told zero z = absurd (z refl)
  role_told (suc n) z =
      rw (ne_eqb (suc n) 0 z)
      (by_row (suc n) _ _ (λ e. enough n (parent_of rows (suc n)) (parent_of rows (suc n)) (omega (arith, parent_earlier s rows (suc n) e)) (omega arith)))

  module _ (n : ℕ) (z : n ≡ 0 → ⊥) (b : Bool) (e : b ≡ has_row s rows n) where
    pub role_none : b ≡ false → Unknown ≡ role_of s rows t n
    role_none f = sym (role_told n z ∙ rw (← e, f))

    pub role_child : b ≡ true → (p : ℕ) → p ≡ get_or rows (4 * n + 1) 0 → (a r : ℕ) → a ≡ role_of s rows t p → r ≡ child_role t a (element_name s rows n) → r ≡ role_of s rows t n
    role_child f p g a r h q = sym (role_told n z ∙ rw (← e, f, ← g, ← h, ← q))
