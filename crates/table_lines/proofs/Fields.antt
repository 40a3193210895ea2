-- The field of a number: where it starts, and what stands there.
-- Assumes nothing.
use mathlib.Core.Path.{◌≡◌, refl, sym, ◌∙◌, ap}
use mathlib.Core.Bool.{Bool, true, false}
use mathlib.Core.List.{List, [], ◌∷◌}
use Prim.Native.Nat.{ℕ, zero, suc, ◌+◌, ◌-◌, ◌<◌, ◌≤◌}
use native.Mathlib.Omega.{arith}
use borrow.Author.Tests.{ne_eqb, ltb-true}
use lib.Dec.{ltb}
use lib.ListN.{length, take, drop, get_or, drop_of_length-le}
use Rattle.text_scan.specs.Choice.{pick, not}
use Rattle.text_scan.specs.Lists.{run_from}
use Rattle.text_scan.proofs.Within.{drop_here}
use Rattle.table_lines.specs.Lines.{Row, other, is_tab, field, in_first, fields_of, front}
use Rattle.table_lines.specs.Starts.{field_start}
use Rattle.table_lines.specs.Blocks.{plain_end}
use Rattle.table_lines.proofs.Blocks.{along}
use Rattle.table_lines.proofs.Runs.{before}

-- ---- the loop of `field_start`
abbrev pub Starting : List ℕ → ℕ → ℕ → ℕ → Type 0
Starting line k left i = field_start k 0 line ≡ field_start left i (drop i line)

module _ (line : List ℕ) (k left i : ℕ) (l : Starting line k left i) where
  pub here : left ≡ 0 → i ≡ field_start k 0 line
  unfolding field_start
  here e = sym (l ∙ rw e)

  pub past : length line ≤ i → i ≡ field_start k 0 line
  past h = sym (l ∙ rw (drop_of_length-le line h) (none left))
    where
      none : (m : ℕ) → field_start m i [] ≡ i
      none zero = unfold field_start in refl
      none (suc m) = unfold field_start in refl

module _ (line : List ℕ) (k : ℕ) where
  pub at_tab : (left i : ℕ) → Starting line k left i → i < length line → (left ≡ 0 → ⊥) → get_or line i 0 ≡ 9 → Starting line k (left - 1) (i + 1)
  unfolding field_start
  at_tab zero i l h z e = absurd (z refl)
  at_tab (suc left) i l h z e =
      let g : suc left - 1 ≡ left = omega arith in
      l ∙ rw (g, drop_here line i h, e)

  pub at_other : (left i : ℕ) → Starting line k left i → i < length line → (left ≡ 0 → ⊥) → (get_or line i 0 ≡ 9 → ⊥) → Starting line k left (i + 1)
  unfolding field_start
  at_other zero i l h z e = absurd (z refl)
  at_other (suc left) i l h z e = l ∙ rw (drop_here line i h, ne_eqb (get_or line i 0) 9 e)

  pub at_plain : (left i : ℕ) → Starting line k left i → i < length line → (left ≡ 0 → ⊥) → (get_or line i 0 ≡ 9 → ⊥) → (e : ℕ) → e ≡ plain_end line (i + 1) → Starting line k left e
  at_plain left i l h z g e q =
      rw q
      (along (ltb 13) line (λ j. Starting line k left j)
      (λ j f t r. at_other left j r f z (λ p. absurd (omega (arith, ltb-true 13 (get_or line j 0) t))))
      (i + 1) (at_other left i l h z g))

-- ---- what stands there
start_within : (k i : ℕ) (xs : List ℕ) → (i ≤ field_start k i xs) × (field_start k i xs ≤ i + length xs)
unfolding field_start
start_within zero i xs = (omega arith, omega arith)
start_within (suc k) i [] = (omega arith, omega arith)
start_within (suc k) i (b ∷ bs) = go (is_tab b) (start_within k (i + 1) bs) (start_within (suc k) (i + 1) bs)
  where
    go : (t : Bool) → (i + 1 ≤ field_start k (i + 1) bs) × (field_start k (i + 1) bs ≤ i + 1 + length bs) → (i + 1 ≤ field_start (suc k) (i + 1) bs) × (field_start (suc k) (i + 1) bs ≤ i + 1 + length bs) → (i ≤ pick t (field_start k (i + 1) bs) (field_start (suc k) (i + 1) bs)) × (pick t (field_start k (i + 1) bs) (field_start (suc k) (i + 1) bs) ≤ i + length (b ∷ bs))
    go true p q = (omega arith, omega arith)
    go false p q = (omega arith, omega arith)

pub start_most : (k : ℕ) (line : List ℕ) (a : ℕ) → a ≡ field_start k 0 line → a ≤ length line
start_most k line a e = omega (arith, (start_within k 0 line).1)

abbrev no_tab : ℕ → Bool
no_tab = other 9

-- the first field, and the others, of one byte more
pub first_more : (b : ℕ) (fs : Row) → field (in_first b fs) 0 ≡ b ∷ field fs 0
first_more b [] = refl
first_more b (f ∷ fs) = refl

pub later_more : (b k : ℕ) (fs : Row) → field (in_first b fs) (suc k) ≡ field fs (suc k)
later_more b k [] = refl
later_more b k (f ∷ fs) = refl

first : (xs : List ℕ) → field (fields_of xs) 0 ≡ front no_tab xs
unfolding fields_of front
first [] = refl
first (b ∷ bs) = go (is_tab b) (first bs)
  where
    go : (t : Bool) → field (fields_of bs) 0 ≡ front no_tab bs → field (pick t ([] ∷ fields_of bs) (in_first b (fields_of bs))) 0 ≡ pick (not t) (b ∷ front no_tab bs) []
    go true q = refl
    go false q = first_more b (fields_of bs) ∙ ap (λ (f : List ℕ). b ∷ f) q

-- what starts where the field starts, up to a tab
stands : (k i : ℕ) (xs : List ℕ) → field (fields_of xs) k ≡ front no_tab (drop (field_start k i xs - i) xs)
unfolding fields_of field_start
stands zero i xs =
    let e : i - i ≡ 0 = omega arith in
    first xs ∙ rw e
stands (suc k) i [] =
    let e : i - i ≡ 0 = omega arith in
    rw e (unfold front in refl)
stands (suc k) i (b ∷ bs) = go (is_tab b) (stands k (i + 1) bs) (stands (suc k) (i + 1) bs)
  where
    go : (t : Bool)
        → field (fields_of bs) k ≡ front no_tab (drop (field_start k (i + 1) bs - (i + 1)) bs)
        → field (fields_of bs) (suc k) ≡ front no_tab (drop (field_start (suc k) (i + 1) bs - (i + 1)) bs)
        → field (pick t ([] ∷ fields_of bs) (in_first b (fields_of bs))) (suc k) ≡ front no_tab (drop (pick t (field_start k (i + 1) bs) (field_start (suc k) (i + 1) bs) - i) (b ∷ bs))
    go true p q =
        let e : field_start k (i + 1) bs - i ≡ suc (field_start k (i + 1) bs - (i + 1)) = omega (arith, (start_within k (i + 1) bs).0) in
        rw (e, p)
    go false p q =
        let e : field_start (suc k) (i + 1) bs - i ≡ suc (field_start (suc k) (i + 1) bs - (i + 1)) = omega (arith, (start_within (suc k) (i + 1) bs).0) in
        rw e (later_more b k (fields_of bs) ∙ q)

-- a field is what stands from its start up to a tab
pub field_front : (line : List ℕ) (k a : ℕ) → a ≡ field_start k 0 line → front (other 9) (drop a line) ≡ field (fields_of line) k
field_front line k a p =
    let z : field_start k 0 line - 0 ≡ a = omega arith in
    sym (stands k 0 line ∙ rw z)

-- the part of a line that is its field of number k
pub field_part : (line : List ℕ) (k a e : ℕ) → a ≡ field_start k 0 line → e ≡ run_from (other 9) line a → take (e - a) (drop a line) ≡ field (fields_of line) k
field_part line k a e p q = rw (q, before no_tab a (drop a line)) (field_front line k a p)
