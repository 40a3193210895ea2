-- The count that a line says: the loop of `read_count`.
-- Assumes nothing.
use mathlib.Core.Path.{◌≡◌, refl, sym, ◌∙◌}
use mathlib.Core.Bool.{Bool, true, false}
use mathlib.Core.List.{List, [], ◌∷◌}
use Prim.Native.Nat.{ℕ, ◌+◌, ◌-◌, ◌*◌, ◌<◌, ◌≤◌}
use native.Mathlib.Omega.{arith}
use borrow.Author.Tests.{eq-eqb, ne_eqb, le-leb, lt-leb, leb-true}
use lib.Dec.{eqb, leb}
use lib.ListN.{length, drop, get_or, drop_of_length-le}
use Rattle.std.specs.Prelude.{Option, Some, None}
use Rattle.text_scan.specs.Choice.{pick, ◌and◌}
use Rattle.text_scan.specs.Bytes.{is_digit}
use Rattle.text_scan.specs.Lists.{every}
use Rattle.text_scan.proofs.Tests.{and_false, or_true, and_left}
use Rattle.text_scan.proofs.Within.{drop_here}
use Rattle.text_numbers.specs.Numbers.{value_after}
use Rattle.xml_reader.specs.Limits.{rows_limit}
use Rattle.table_file.specs.Accepted.{is_count, count_of}

-- the count, where digits of the value v stand before
abbrev count_from : ℕ → List ℕ → Option ℕ
count_from v xs = pick (every is_digit xs and leb (value_after v xs) rows_limit) (Some (value_after v xs)) None

abbrev pub Counting : List ℕ → ℕ → ℕ → Type 0
Counting line v i = count_of line ≡ count_from v (drop i line)

-- more digits make no number smaller
pub value_grows : (v : ℕ) (xs : List ℕ) → v ≤ value_after v xs
unfolding value_after
value_grows v [] = omega arith
value_grows v (b ∷ bs) = omega (arith, value_grows (v * 10 + (b - 48)) bs)

pub digit_least : (b : ℕ) (t : Bool) → t ≡ is_digit b → t ≡ true → 48 ≤ b
digit_least b t e f = leb-true 48 b (and_left (leb 48 b) (leb b 57) (sym e ∙ f))

pub no_count : (line : List ℕ) (t : Bool) → t ≡ eqb (length line) 0 → t ≡ true → None ≡ count_of line
unfolding count_of is_count
no_count line t e f = rw (← e, f)

pub leading_zero : (line : List ℕ) → get_or line 0 0 ≡ 48 → (length line ≡ 1 → ⊥) → None ≡ count_of line
unfolding count_of is_count
leading_zero line e f = simp (ne_eqb (length line) 1 f, eq-eqb (get_or line 0 0) 48 e, and_false)

pub starts : (line : List ℕ) (t : Bool) → t ≡ eqb (length line) 0 → t ≡ false → (get_or line 0 0 ≡ 48 → ⊥) → Counting line 0 0
unfolding count_of is_count
starts line t z f e = simp (← z, f, ne_eqb (get_or line 0 0) 48 e, or_true)

pub starts_alone : (line : List ℕ) → length line ≡ 1 → Counting line 0 0
unfolding count_of is_count
starts_alone line e = rw e

module _ (line : List ℕ) (v i : ℕ) (l : Counting line v i) where
  module _ (h : i < length line) (t : Bool) (e : t ≡ is_digit (get_or line i 0)) where
    pub no_digit : t ≡ false → None ≡ count_of line
    unfolding every
    no_digit f = sym (l ∙ rw (drop_here line i h, ← e, f))

    pub digit_on : t ≡ true → (d : ℕ) → d ≡ get_or line i 0 - 48 → Counting line (v * 10 + d) (i + 1)
    unfolding every value_after
    digit_on f d q = l ∙ rw (drop_here line i h, ← e, f, q)

    pub too_many : t ≡ true → (d : ℕ) → d ≡ get_or line i 0 - 48 → rows_limit < v * 10 + d → None ≡ count_of line
    too_many f d q g =
        let w : rows_limit < value_after (v * 10 + (get_or line i 0 - 48)) (drop (i + 1) line) = omega (arith, value_grows (v * 10 + (get_or line i 0 - 48)) (drop (i + 1) line)) in
        sym (digit_on f (get_or line i 0 - 48) refl ∙ simp (lt-leb (value_after (v * 10 + (get_or line i 0 - 48)) (drop (i + 1) line)) rows_limit w, and_false))

  pub counted : length line ≤ i → v ≤ rows_limit → Some v ≡ count_of line
  unfolding every value_after
  counted h g = sym (l ∙ rw (drop_of_length-le line h, le-leb v rows_limit g))
