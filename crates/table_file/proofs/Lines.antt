-- The number of a line's fields, and whether it is a row by that.
-- Assumes nothing.
use mathlib.Core.Path.{◌≡◌, refl, sym, ◌∙◌}
use mathlib.Core.Bool.{Bool, true, false}
use mathlib.Core.List.{List}
use Prim.Native.Nat.{ℕ, ◌-◌, ◌<◌, ◌≤◌}
use native.Mathlib.Omega.{arith}
use borrow.Author.Tests.{eq-eqb, ne_eqb, le-leb, lt-leb}
use lib.Dec.{eqb, ltb}
use lib.ListN.{length, take, drop}
use Rattle.std.specs.Prelude.{Option, Some, None}
use Rattle.text_scan.specs.Choice.{pick, ◌and◌}
use Rattle.text_numbers.specs.Numbers.{version_of}
use Rattle.xml_reader.specs.Limits.{row_limit}
use Rattle.table_lines.specs.Lines.{line_end, line_at, field, fields_of, are_fields, field_count}
use Rattle.table_file.specs.declared.Kind.{Kind}
use Rattle.table_file.specs.Accepted.{is_of, is_row}

-- the fields are counted where they are all right
all_right : (t : Bool) (m n : ℕ) → pick t (Some m) None ≡ Some n → (t ≡ true) × (m ≡ n)
all_right true m n e = (refl, cc)
all_right false m n e = absurd (let z : ◌≡◌ {A = ℕ} 0 1 = cc in omega arith)

some_wrong : (t : Bool) (m : ℕ) → pick t (Some m) None ≡ None → t ≡ false
some_wrong true m e = absurd (let z : ◌≡◌ {A = ℕ} 0 1 = cc in omega arith)
some_wrong false m e = refl

-- the fields of a line, told of the part that it is
pub count_of : (s : List ℕ) (i e : ℕ) (n : Option ℕ) → e ≡ line_end s i → n ≡ field_count (line_at s i) → n ≡ field_count (take (e - i) (drop i s))
count_of s i e n q f = rw q f

module _ (kind : Kind) (line : List ℕ) where
  pub too_long : row_limit < length line → false ≡ is_row kind line
  unfolding is_row
  too_long h = rw (lt-leb (length line) row_limit h)

  module _ (h : length line ≤ row_limit) (f : Option ℕ) (e : f ≡ field_count line) where
    pub wrong_fields : f ≡ None → false ≡ is_row kind line
    unfolding is_row field_count
    wrong_fields g = rw (le-leb (length line) row_limit h, some_wrong (are_fields (fields_of line)) (length (fields_of line)) (sym e ∙ g))

    module _ (n : ℕ) (g : f ≡ Some n) where
      right : (are_fields (fields_of line) ≡ true) × (length (fields_of line) ≡ n)
      unfolding field_count
      right = all_right (are_fields (fields_of line)) (length (fields_of line)) n (sym e ∙ g)

      is_it : is_of kind (fields_of line) ≡ is_row kind line
      unfolding is_row
      is_it = rw (le-leb (length line) row_limit h, right.0)

      by : (t : Bool) → is_of kind (fields_of line) ≡ t → t ≡ is_row kind line
      by t p = sym p ∙ is_it

      pub of_three : kind ≡ Kind.CodeList → eqb n 3 ≡ is_row kind line
      of_three k = by (eqb n 3) (unfold is_of in rw (k, right.1))

      pub of_two : kind ≡ Kind.Register → eqb n 2 ≡ is_row kind line
      of_two k = by (eqb n 2) (unfold is_of in rw (k, right.1))

      module _ (k : kind ≡ Kind.History) where
        pub not_five : (n ≡ 5 → ⊥) → eqb n 5 ≡ is_row kind line
        not_five p = by (eqb n 5) (unfold is_of in rw (k, right.1, ne_eqb n 5 p))

        pub of_five : n ≡ 5 → (x : List ℕ) (v : ℕ) → x ≡ field (fields_of line) 2 → v ≡ version_of x → ltb 0 v ≡ is_row kind line
        of_five p x v q r = by (ltb 0 v) (unfold is_of in rw (k, right.1, p, r, q))
