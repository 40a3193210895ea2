-- The loop of `line_at`: n fields are passed, and all are right; the next starts at a place, and is empty so far, or not.
-- Assumes nothing.
use mathlib.Core.Path.{◌≡◌, refl, sym, ◌∙◌}
use mathlib.Core.Bool.{Bool, true, false}
use mathlib.Core.List.{List, [], ◌∷◌}
use Prim.Native.Nat.{ℕ, suc, ◌+◌, ◌<◌, ◌≤◌}
use native.Mathlib.Nat.{zero-add}
use native.Mathlib.Omega.{arith}
use borrow.Author.Tests.{ne_eqb, le-leb, lt-leb, ltb-true}
use lib.Dec.{eqb, leb, ltb}
use lib.ListN.{length, drop, get_or, drop_of_length-le}
use Rattle.std.specs.Prelude.{Option, Some, None}
use Rattle.text_scan.specs.Choice.{pick, ◌and◌}
use Rattle.text_scan.specs.Lists.{every}
use Rattle.text_scan.proofs.Within.{drop_here}
use Rattle.table_lines.specs.Lines.{Row, other, line_at, in_first, fields_of, are_fields, field_count, front}
use Rattle.table_lines.specs.Blocks.{plain_end}
use Rattle.table_lines.proofs.Blocks.{along}
use Rattle.table_lines.proofs.Runs.{before}

-- a line has a field
pub some_field : (xs : List ℕ) → 0 < length (fields_of xs)
unfolding fields_of
some_field [] = omega arith
some_field (b ∷ bs) = go (eqb b 9) (fields_of bs)
  where
    go : (t : Bool) (fs : Row) → 0 < length (pick t ([] ∷ fs) (in_first b fs))
    go true fs = omega arith
    go false [] = omega arith
    go false (f ∷ fs) = omega arith

-- the fields are right, where the first is the rest of one that is empty so far, or not
abbrev rest : Bool → Row → Bool
rest true fs = are_fields fs
rest false [] = true
rest false (f ∷ fs) = every (other 13) f and are_fields fs

abbrev counted : ℕ → Bool → Row → Option ℕ
counted n empty fs = pick (rest empty fs) (Some (n + length fs)) None

returned : (n : ℕ) (empty : Bool) (fs : Row) → counted n empty (in_first 13 fs) ≡ None
unfolding are_fields every
returned n true [] = refl
returned n true (f ∷ fs) = refl
returned n false [] = refl
returned n false (f ∷ fs) = refl

longer : (n b : ℕ) (empty : Bool) (fs : Row) → 0 < length fs → (b ≡ 13 → ⊥) → counted n empty (in_first b fs) ≡ counted n false fs
unfolding are_fields every
longer n b empty [] h r = absurd (omega arith)
longer n b true (f ∷ fs) h r = rw (ne_eqb b 13 r)
longer n b false (f ∷ fs) h r = rw (ne_eqb b 13 r)

-- what is left of the line from i on
abbrev left : List ℕ → ℕ → List ℕ
left s i = front (other 10) (drop i s)

module _ (s : List ℕ) (i : ℕ) where
  left_on : i < length s → (get_or s i 0 ≡ 10 → ⊥) → left s i ≡ get_or s i 0 ∷ left s (i + 1)
  unfolding front
  left_on h e = rw (drop_here s i h, ne_eqb (get_or s i 0) 10 e)

  left_feed : i < length s → get_or s i 0 ≡ 10 → left s i ≡ []
  unfolding front
  left_feed h e = rw (drop_here s i h, e)

  left_end : length s ≤ i → left s i ≡ []
  unfolding front
  left_end h = rw (drop_of_length-le s h)

-- the count of the line at `at`, told from i on
abbrev pub Counting : List ℕ → ℕ → ℕ → ℕ → ℕ → Type 0
Counting s at n start i = field_count (line_at s at) ≡ counted n (leb i start) (fields_of (left s i))

pub starts : (s : List ℕ) (at : ℕ) → Counting s at 0 at at
unfolding field_count
starts s at = rw (before (other 10) at (drop at s), le-leb at at (omega arith), zero-add (length (fields_of (left s at))))

module _ (s : List ℕ) (at n start i : ℕ) (l : Counting s at n start i) where
  module _ (h : i < length s) where
    pub at_return : (f : Option ℕ) → f ≡ None → get_or s i 0 ≡ 13 → f ≡ field_count (line_at s at)
    unfolding fields_of
    at_return f z e =
        z ∙ sym (l ∙ rw (left_on s i h (λ p. absurd (omega arith)), e) (returned n (leb i start) (fields_of (left s (i + 1)))))

    pub at_tab_empty : (f : Option ℕ) → f ≡ None → get_or s i 0 ≡ 9 → i ≤ start → f ≡ field_count (line_at s at)
    unfolding fields_of are_fields
    at_tab_empty f z e g = z ∙ sym (l ∙ rw (left_on s i h (λ p. absurd (omega arith)), e, le-leb i start g))

    pub at_tab : get_or s i 0 ≡ 9 → start < i → Counting s at (n + 1) (i + 1) (i + 1)
    unfolding fields_of every
    at_tab e f =
        let g : n + suc (length (fields_of (left s (i + 1)))) ≡ n + 1 + length (fields_of (left s (i + 1))) = omega arith in
        l ∙ rw (left_on s i h (λ p. absurd (omega arith)), e, lt-leb i start f, le-leb (i + 1) (i + 1) (omega arith), g)

    module _ (o : start ≤ i) where
      pub at_other : (get_or s i 0 ≡ 10 → ⊥) → (get_or s i 0 ≡ 13 → ⊥) → (get_or s i 0 ≡ 9 → ⊥) → Counting s at n start (i + 1)
      unfolding fields_of
      at_other f r t =
          l ∙ rw (left_on s i h f, ne_eqb (get_or s i 0) 9 t, lt-leb (i + 1) start (omega arith))
          (longer n (get_or s i 0) (leb i start) (fields_of (left s (i + 1))) (some_field (left s (i + 1))) r)

      pub at_above : 13 < get_or s i 0 → Counting s at n start (i + 1)
      at_above g = at_other (λ p. absurd (omega arith)) (λ p. absurd (omega arith)) (λ p. absurd (omega arith))

  module _ (h : left s i ≡ []) where
    last_empty : i ≤ start → None ≡ field_count (line_at s at)
    unfolding fields_of are_fields
    last_empty f = sym (l ∙ rw (h, le-leb i start f))

    last_field : start < i → Some (n + 1) ≡ field_count (line_at s at)
    unfolding fields_of are_fields every
    last_field f = sym (l ∙ rw (h, lt-leb i start f))

  module _ (h : length s ≤ i) where
    pub end_empty : i ≤ start → None ≡ field_count (line_at s at)
    end_empty = last_empty (left_end s i h)

    pub end_field : start < i → Some (n + 1) ≡ field_count (line_at s at)
    end_field = last_field (left_end s i h)

  module _ (h : i < length s) (e : get_or s i 0 ≡ 10) where
    pub feed_empty : i ≤ start → None ≡ field_count (line_at s at)
    feed_empty = last_empty (left_feed s i h e)

    pub feed_field : start < i → Some (n + 1) ≡ field_count (line_at s at)
    feed_field = last_field (left_feed s i h e)

-- the same behind bytes that are above 13
pub at_plain : (s : List ℕ) (at n start i : ℕ) → Counting s at n start i → i < length s → start ≤ i → 13 < get_or s i 0 → (e : ℕ) → e ≡ plain_end s (i + 1) → Counting s at n start e
at_plain s at n start i l h o g e q =
    rw q
    (along (ltb 13) s (λ k. (start ≤ k) × Counting s at n start k)
    (λ k f t r. (omega (arith, r.0), at_above s at n start k r.1 f r.0 (ltb-true 13 _ t)))
    (i + 1) (omega arith, at_above s at n start i l h o g)).1
