-- The run of the notes, by the tests of the code: rows in front, what is kept behind them.
-- Assumes nothing.
use Rattle.std.specs.Prelude.{Option, None, Some}
use mathlib.Core.Path.{◌≡◌, sym, ◌∙◌, ap}
use mathlib.Core.Bool.{Bool, true, false}
use mathlib.Core.List.{List}
use Prim.Native.Nat.{ℕ, ◌+◌, ◌-◌, ◌*◌, ◌/◌, ◌<◌, ◌≤◌}
use native.Mathlib.Omega.{arith}
use borrow.Author.Tests.{le-leb, lt-leb, lt-ltb, le-ltb, ltb-true, leb-true}
use lib.Dec.{eqb, ltb, leb}
use lib.ListN.{length, get_or, get_or-eq_default}
use lib.Seq.{get_or-take, length-take-le}
use Rattle.text_scan.specs.Choice.{pick, ◌and◌}
use Rattle.text_scan.proofs.Tests.{pick_case, and_left, and_right}
use Rattle.xml_values.specs.declared.Place.{Place}
use Rattle.judge_kept.specs.Kept.{note_width, kept_width, rows_in, kept_in, standing, text_held, which_of, role_in, names_of, no_other, attribute_held}
use Rattle.xml_values.specs.Places.{from_to}

-- ---- the rows
pub rows_length : (w : List ℕ) → length (rows_in w) ≡ 4 * (length w / note_width)
unfolding rows_in
rows_length w = length-take-le (4 * (length w / note_width)) w (omega arith)

-- there are as many as elements
pub rows_count : (w : List ℕ) → length (rows_in w) / 4 ≡ length w / note_width
rows_count w = omega (arith, rows_length w)

module _ (w : List ℕ) (n k : ℕ) (i : k < 4) where
  pub row_read : n < length w / note_width → get_or w (4 * n + k) 0 ≡ get_or (rows_in w) (4 * n + k) 0
  unfolding rows_in
  row_read h = sym (get_or-take (4 * (length w / note_width)) w (4 * n + k) 0 (omega arith))

  pub row_past : length w / note_width ≤ n → 0 ≡ get_or (rows_in w) (4 * n + k) 0
  row_past h = sym (get_or-eq_default (rows_in w) 0 (omega (arith, rows_length w)))

-- ---- what is kept
module _ (w : List ℕ) (n i : ℕ) where
  pub kept_read : (count : ℕ) → count ≡ length w / note_width → n < count → get_or w (4 * count + kept_width * n + i) 0 ≡ kept_in w n i
  unfolding kept_in
  kept_read count e h = rw (e, lt-ltb n (length w / note_width) (rw e at h))

  pub kept_past : (count : ℕ) → count ≡ length w / note_width → count ≤ n → 0 ≡ kept_in w n i
  unfolding kept_in
  kept_past count e h = rw (le-ltb n (length w / note_width) (rw e at h))

-- ---- a place in two numbers
module _ (s : List ℕ) (a f x y : ℕ) (ea : a ≡ x) (ef : f ≡ y) where
  pub stands_there : a < f → f - 1 ≤ length s → from_to a (f - 1) ≡ standing s x y
  unfolding standing
  stands_there h g = rw (← ea, ← ef, lt-ltb a f h, le-leb (f - 1) (length s) g)

  pub stands_outside : a < f → length s < f - 1 → None ≡ standing s x y
  unfolding standing
  stands_outside h g = rw (← ea, ← ef, lt-ltb a f h, lt-leb (f - 1) (length s) g)

  pub stands_nowhere : f ≤ a → None ≡ standing s x y
  unfolding standing
  stands_nowhere h = rw (← ea, ← ef, le-ltb a f h)

-- by the reads of the code
module _ (s w : List ℕ) (n : ℕ) where
  pub held_text : (p : Option Place) → p ≡ standing s (kept_in w n 0) (kept_in w n (0 + 1)) → p ≡ text_held s w n
  unfolding text_held
  held_text p e = e

  pub other_told : (x : ℕ) → x ≡ kept_in w n 8 → eqb x 1 ≡ no_other w n
  other_told x e = rw e

-- it is one of the document
abbrev pub Stands : List ℕ → Option Place → Type 0
Stands s (Some p) = (p.first ≤ p.after) × (p.after ≤ length s)
Stands s None = Unit {0}

standing_within : (s : List ℕ) (x y : ℕ) → Stands s (standing s x y)
unfolding standing
standing_within s x y =
    pick_case (Stands s) (ltb x y and leb (y - 1) (length s)) (from_to x (y - 1)) None
    (λ e.
    let h : x < y = ltb-true x y (and_left (ltb x y) (leb (y - 1) (length s)) e) in
    (omega arith, leb-true (y - 1) (length s) (and_right (ltb x y) (leb (y - 1) (length s)) e)))
    (λ _. tt)

pub text_within : (s w : List ℕ) (n : ℕ) → Stands s (text_held s w n)
unfolding text_held
text_within s w n = standing_within s (kept_in w n 0) (kept_in w n 1)

pub attribute_within : (s w : List ℕ) (n : ℕ) (name : List ℕ) → Stands s (attribute_held s w n name)
unfolding attribute_held
attribute_within s w n name =
    let k = which_of name (names_of (role_in w n)) in
    pick_case (Stands s) (ltb k 3) (standing s (kept_in w n (2 + 2 * k)) (kept_in w n (3 + 2 * k))) (pick (no_other w n) (from_to 0 0) None)
    (λ _. standing_within s (kept_in w n (2 + 2 * k)) (kept_in w n (3 + 2 * k)))
    (λ _. pick_case (Stands s) (no_other w n) (from_to 0 0) None (λ _. (omega arith, omega arith)) (λ _. tt))

-- ---- where an attribute is held
module _ (s w : List ℕ) (n : ℕ) (name : List ℕ) (q : ℕ) (eq : q ≡ get_or (rows_in w) (4 * n + 0) 0) (k : ℕ) (ek : k ≡ which_of name (names_of q)) where
  its_role : q ≡ role_in w n
  its_role =
      let z : 4 * n + 0 ≡ 4 * n = omega arith in
      eq ∙ rw z

  its_name : k ≡ which_of name (names_of (role_in w n))
  its_name = ek ∙ ap (λ (r : ℕ). which_of name (names_of r)) its_role

  pub held_listed : k < 3 → (p : Option Place) → p ≡ standing s (kept_in w n (2 + 2 * k)) (kept_in w n (2 + 2 * k + 1)) → p ≡ attribute_held s w n name
  unfolding attribute_held
  held_listed h p e =
      let z : 2 + 2 * k + 1 ≡ 3 + 2 * k = omega arith in
      e ∙ rw (z, ← its_name, lt-ltb k 3 h)

  module _ (h : 3 ≤ k) (b : Bool) (eb : b ≡ no_other w n) where
    pub held_empty : b ≡ true → from_to 0 0 ≡ attribute_held s w n name
    unfolding attribute_held
    held_empty f = rw (← its_name, le-ltb k 3 h, ← eb, f)

    pub not_held : b ≡ false → None ≡ attribute_held s w n name
    unfolding attribute_held
    not_held f = rw (← its_name, le-ltb k 3 h, ← eb, f)
