-- The open elements of a reading, and the rows with one row more or with one element closed.
-- Assumes nothing.
use mathlib.Core.Path.{◌≡◌, refl, ap}
use mathlib.Core.Bool.{Bool, false}
use mathlib.Core.List.{List, ◌++◌}
use Prim.Native.Nat.{ℕ, zero, suc, ◌+◌, ◌*◌, ◌<◌, ◌≤◌}
use native.Mathlib.Omega.{arith}
use lib.Dec.{eqb}
use lib.ListN.{length, get_or, set, get_or-append}
use lib.Seq.{get_or-append-add, get_or-set_same, get_or-set_other}
use Rattle.text_scan.specs.Choice.{◌or◌, ◌and◌, not}
use Rattle.xml_steps.specs.Reading.{element_row, parent_of, first_of, after_of}

-- the open elements are the innermost one, its parent, and so on
abbrev pub is_open : List ℕ → ℕ → ℕ → ℕ → Bool
is_open rows zero top k = false
is_open rows (suc depth) top k = eqb k top or is_open rows depth (parent_of rows top) k

-- element k stands so many levels below the root
abbrev pub at_level : List ℕ → ℕ → ℕ → Bool
at_level rows zero k = eqb k 0
at_level rows (suc d) k = not (eqb k 0) and at_level rows d (parent_of rows k)

-- ---- both ask for parents alone
module _ (rows rows' : List ℕ) (count : ℕ) (same : (k : ℕ) → k < count → parent_of rows' k ≡ parent_of rows k) (above : (k : ℕ) → parent_of rows k ≤ k) where
  pub open_same : (depth top k : ℕ) → top < count → is_open rows' depth top k ≡ is_open rows depth top k
  open_same zero top k h = refl
  open_same (suc depth) top k h =
      rw (same top h) (ap (λ (b : Bool). eqb k top or b) (open_same depth (parent_of rows top) k (omega (arith, above top))))

  pub level_same : (d k : ℕ) → k < count → at_level rows' d k ≡ at_level rows d k
  level_same zero k h = refl
  level_same (suc d) k h =
      rw (same k h) (ap (λ (b : Bool). not (eqb k 0) and b) (level_same d (parent_of rows k) (omega (arith, above k))))

-- ---- one row more
module _ (rows : List ℕ) (count p f a : ℕ) (wide : length rows ≡ 4 * count) where
  old : (k i : ℕ) → 4 * k + i < 4 * count → get_or (rows ++ element_row count p f a) (4 * k + i) 0 ≡ get_or rows (4 * k + i) 0
  old k i h = get_or-append rows (element_row count p f a) 0 (4 * k + i) (omega arith)

  new : (i : ℕ) → get_or (rows ++ element_row count p f a) (4 * count + i) 0 ≡ get_or (element_row count p f a) i 0
  new i = rw wide at (get_or-append-add rows (element_row count p f a) i 0)

  pub old_parent : (k : ℕ) → k < count → parent_of (rows ++ element_row count p f a) k ≡ parent_of rows k
  old_parent k h = old k 1 (omega arith)

  pub old_first : (k : ℕ) → k < count → first_of (rows ++ element_row count p f a) k ≡ first_of rows k
  old_first k h = old k 2 (omega arith)

  pub old_after : (k : ℕ) → k < count → after_of (rows ++ element_row count p f a) k ≡ after_of rows k
  old_after k h = old k 3 (omega arith)

  pub new_parent : parent_of (rows ++ element_row count p f a) count ≡ p
  new_parent = new 1

  pub new_first : first_of (rows ++ element_row count p f a) count ≡ f
  new_first = new 2

  pub new_after : after_of (rows ++ element_row count p f a) count ≡ a
  new_after = new 3

-- ---- one element closed
module _ (rows : List ℕ) (top j : ℕ) where
  pub set_parent : (k : ℕ) → parent_of (set rows (4 * top + 3) j) k ≡ parent_of rows k
  set_parent k = get_or-set_other rows (4 * top + 3) (4 * k + 1) j 0 (λ e. omega arith)

  pub set_first : (k : ℕ) → first_of (set rows (4 * top + 3) j) k ≡ first_of rows k
  set_first k = get_or-set_other rows (4 * top + 3) (4 * k + 2) j 0 (λ e. omega arith)

  pub set_after : (k : ℕ) → (k ≡ top → ⊥) → after_of (set rows (4 * top + 3) j) k ≡ after_of rows k
  set_after k h = get_or-set_other rows (4 * top + 3) (4 * k + 3) j 0 (λ e. h (omega arith))

  pub set_its_after : 4 * top + 3 < length rows → after_of (set rows (4 * top + 3) j) top ≡ j
  set_its_after h = get_or-set_same rows (4 * top + 3) j 0 h
