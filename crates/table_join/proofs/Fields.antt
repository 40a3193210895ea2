-- A row that is written is read again, and only so.
-- Assumes nothing.
use mathlib.Core.Path.{◌≡◌, refl, ◌∙◌, ap}
use mathlib.Core.Bool.{Bool, true, false}
use mathlib.Core.List.{List, [], ◌∷◌, ◌++◌}
use Prim.Native.Nat.{ℕ, ◌<◌}
use native.Mathlib.Omega.{arith}
use borrow.Author.Tests.{eqb-true, not-true}
use lib.Dec.{eqb, leb, ltb}
use lib.ListN.{length}
use Rattle.text_scan.specs.Choice.{pick, ◌and◌, not}
use Rattle.text_scan.specs.Lists.{every}
use Rattle.text_scan.proofs.Tests.{and_left, and_right}
use Rattle.text_numbers.specs.Numbers.{version_of}
use Rattle.xml_reader.specs.Limits.{row_limit}
use Rattle.table_lines.specs.Lines.{Row, field, other, is_tab, in_first, fields_of, are_fields}
use Rattle.table_lines.proofs.Counting.{some_field}
use Rattle.table_file.specs.declared.Kind.{Kind}
use Rattle.table_file.specs.Accepted.{is_of, is_row}
use Rattle.table_join.specs.Written.{line_of, is_field_byte, are_plain, is_good_row}
use Rattle.table_join.proofs.Lists.{and_both, every_joined, every_weaker}

no_tab_lem : (b : ℕ) → is_field_byte b ≡ true → is_tab b ≡ false
no_tab_lem b e = not-true (eqb b 9) (and_left (not (eqb b 9)) (not (eqb b 10)) e)

-- ---- written, and read again
read_last : (f : List ℕ) → every is_field_byte f ≡ true → fields_of f ≡ f ∷ []
unfolding every fields_of
read_last [] e = refl
read_last (b ∷ f) e =
    rw (no_tab_lem b (and_left (is_field_byte b) (every is_field_byte f) e), read_last f (and_right (is_field_byte b) (every is_field_byte f) e))

read_first : (f rest : List ℕ) → every is_field_byte f ≡ true → fields_of (f ++ 9 ∷ rest) ≡ f ∷ fields_of rest
unfolding every fields_of
read_first [] rest e = refl
read_first (b ∷ f) rest e =
    rw (no_tab_lem b (and_left (is_field_byte b) (every is_field_byte f) e), read_first f rest (and_right (is_field_byte b) (every is_field_byte f) e))

pub fields_written : (row : Row) → 0 < length row → are_plain row ≡ true → fields_of (line_of row) ≡ row
unfolding line_of are_plain
fields_written [] h e = absurd (omega arith)
fields_written (f ∷ []) h e = read_last f (and_left (every is_field_byte f) true e)
fields_written (f ∷ g ∷ fs) h e =
    read_first f (line_of (g ∷ fs)) (and_left (every is_field_byte f) (are_plain (g ∷ fs)) e)
    ∙ ap (λ (r : Row). f ∷ r) (fields_written (g ∷ fs) (omega arith) (and_right (every is_field_byte f) (are_plain (g ∷ fs)) e))

no_feed : (f : List ℕ) → every is_field_byte f ≡ true → every (other 10) f ≡ true
no_feed f e = every_weaker is_field_byte (other 10) (λ b p. and_right (not (eqb b 9)) (not (eqb b 10)) p) f e

-- a row that is written has no line feed in it
pub line_written : (row : Row) → are_plain row ≡ true → every (other 10) (line_of row) ≡ true
unfolding every line_of are_plain
line_written [] e = refl
line_written (f ∷ []) e = no_feed f (and_left (every is_field_byte f) true e)
line_written (f ∷ g ∷ fs) e =
    every_joined (other 10) f (9 ∷ line_of (g ∷ fs)) (no_feed f (and_left (every is_field_byte f) (are_plain (g ∷ fs)) e))
    (line_written (g ∷ fs) (and_right (every is_field_byte f) (are_plain (g ∷ fs)) e))

-- ---- read, and written again
more_first : (b : ℕ) (fs : Row) → 0 < length fs → line_of (in_first b fs) ≡ b ∷ line_of fs
unfolding line_of
more_first b [] h = absurd (omega arith)
more_first b (f ∷ []) h = refl
more_first b (f ∷ g ∷ fs) h = refl

empty_first : (fs : Row) → 0 < length fs → line_of ([] ∷ fs) ≡ 9 ∷ line_of fs
unfolding line_of
empty_first [] h = absurd (omega arith)
empty_first (f ∷ fs) h = refl

pub line_read : (line : List ℕ) → line_of (fields_of line) ≡ line
unfolding fields_of line_of
line_read [] = refl
line_read (b ∷ bs) = go (is_tab b) refl (line_read bs)
  where
    go : (t : Bool) → is_tab b ≡ t → line_of (fields_of bs) ≡ bs → line_of (pick t ([] ∷ fields_of bs) (in_first b (fields_of bs))) ≡ b ∷ bs
    go true q r = empty_first (fields_of bs) (some_field bs) ∙ rw (r, eqb-true b 9 q)
    go false q r = more_first b (fields_of bs) (some_field bs) ∙ rw r

pub fields_plain : (line : List ℕ) → every (other 10) line ≡ true → are_plain (fields_of line) ≡ true
unfolding every fields_of are_plain
fields_plain [] e = refl
fields_plain (b ∷ bs) e = go (is_tab b) refl (fields_of bs) (some_field bs) (fields_plain bs (and_right (other 10 b) (every (other 10) bs) e))
  where
    more : (fs : Row) → is_field_byte b ≡ true → 0 < length fs → are_plain fs ≡ true → are_plain (in_first b fs) ≡ true
    more [] p h f = absurd (omega arith)
    more (g ∷ gs) p h f = rw p f

    go : (t : Bool) → is_tab b ≡ t → (fs : Row) → 0 < length fs → are_plain fs ≡ true → are_plain (pick t ([] ∷ fs) (in_first b fs)) ≡ true
    go true q fs h f = f
    go false q fs h f = more fs (and_both (other 9 b) (other 10 b) (rw q) (and_left (other 10 b) (every (other 10) bs) e)) h f

-- ---- a row of a section
abbrev rest : Kind → Row → List ℕ → Bool
rest kind row line = leb (length line) row_limit and are_fields row and is_of kind row

some_of : (kind : Kind) (row : Row) → is_of kind row ≡ true → 0 < length row
unfolding is_of
some_of Kind.CodeList row e = omega (arith, eqb-true (length row) 3 e)
some_of Kind.Register row e = omega (arith, eqb-true (length row) 2 e)
some_of Kind.History row e = omega (arith, eqb-true (length row) 5 (and_left (eqb (length row) 5) (ltb 0 (version_of (field row 2))) e))

module _ (kind : Kind) (row : Row) (e : is_good_row kind row ≡ true) where
  pub good_plain : are_plain row ≡ true
  good_plain = and_left (are_plain row) (rest kind row (line_of row)) (unfold is_good_row in e)

  good_rest : rest kind row (line_of row) ≡ true
  good_rest = and_right (are_plain row) (rest kind row (line_of row)) (unfold is_good_row in e)

  pub good_some : 0 < length row
  good_some =
      some_of kind row
      (and_right (are_fields row) (is_of kind row)
      (and_right (leb (length (line_of row)) row_limit) (are_fields row and is_of kind row) good_rest))

  pub row_written : is_row kind (line_of row) ≡ true
  unfolding is_row
  row_written = rw (fields_written row good_some good_plain) good_rest

pub row_read : (kind : Kind) (line : List ℕ) → every (other 10) line ≡ true → is_row kind line ≡ true → is_good_row kind (fields_of line) ≡ true
unfolding is_row is_good_row
row_read kind line f e = rw (line_read line) (and_both (are_plain (fields_of line)) (rest kind (fields_of line) line) (fields_plain line f) e)
