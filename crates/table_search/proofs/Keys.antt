-- A row is what is asked for where it is kept and has the key of what is asked for, since keys compare field by field.
-- Assumes nothing.
use mathlib.Core.Path.{◌≡◌, refl, ◌∙◌, ap, ap₂}
use mathlib.Core.Bool.{Bool, true, false}
use mathlib.Core.List.{List, [], ◌∷◌, ◌++◌, map}
use Prim.Native.Nat.{ℕ, suc}
use lib.Dec.{eqb, eqb-zero-suc, eqb-suc-zero, eqb-suc-suc}
use Rattle.text_scan.specs.Choice.{◌or◌, ◌and◌, not}
use Rattle.text_scan.specs.Bytes.{lower}
use Rattle.text_scan.specs.Lists.{pairs}
use Rattle.text_scan.proofs.Tests.{and_true}
use Rattle.text_facts.specs.Strings.{equal, equal_in_any_case}
use Rattle.table_lines.specs.Lines.{Row, field}
use Rattle.table_rows.specs.Rows.{some_row, is_code, is_registered, is_key_elsewhere, is_asked}
use Rattle.sort_compare.specs.Fields.{shown, coded}
use Rattle.table_index.specs.declared.Lookup.{Lookup}
use Rattle.table_index.specs.Indexed.{asks, keeps_row, key_from, key_of, has_key}

-- ---- keys compare field by field
and_join : (a b c : Bool) → a and b and c ≡ (a and b) and c
and_join true b c = refl
and_join false b c = refl

field_by : (f g xs ys : List ℕ) → pairs eqb (map suc f ++ 0 ∷ xs) (map suc g ++ 0 ∷ ys) ≡ pairs eqb f g and pairs eqb xs ys
unfolding pairs
field_by [] [] xs ys = refl
field_by [] (y ∷ g) xs ys = rw (eqb-zero-suc y)
field_by (x ∷ f) [] xs ys = rw (eqb-suc-zero x)
field_by (x ∷ f) (y ∷ g) xs ys = rw (eqb-suc-suc x y, field_by f g xs ys) (and_join (eqb x y) (pairs eqb f g) (pairs eqb xs ys))

coded_by : (f g : List ℕ) (fs gs : List (List ℕ)) → pairs eqb (coded (f ∷ fs)) (coded (g ∷ gs)) ≡ pairs eqb f g and pairs eqb (coded fs) (coded gs)
unfolding coded
coded_by f g fs gs = field_by f g (coded fs) (coded gs)

coded_last : (f g : List ℕ) → pairs eqb (coded (f ∷ [])) (coded (g ∷ [])) ≡ pairs eqb f g
unfolding coded pairs
coded_last f g = coded_by f g [] [] ∙ and_true (pairs eqb f g)

-- ---- a row is what is asked for
in_any_case : (x y : List ℕ) → equal_in_any_case x y ≡ pairs eqb (map lower x) (map lower y)
unfolding equal_in_any_case pairs
in_any_case [] [] = refl
in_any_case [] (b ∷ y) = refl
in_any_case (a ∷ x) [] = refl
in_any_case (a ∷ x) (b ∷ y) = ap (λ (t : Bool). eqb (lower a) (lower b) and t) (in_any_case x y)

-- the last two of three tests exchanged
and_turned : (a b c : Bool) → a and b and c ≡ (a and c) and b
and_turned true true true = refl
and_turned true true false = refl
and_turned true false true = refl
and_turned true false false = refl
and_turned false b c = refl

asked_key : (q : Lookup) (a b c : List ℕ) (row : Row) → is_asked (asks q) a b c row ≡ has_key q (keeps_row q a c) (key_from q a b c) row
unfolding is_asked is_code is_registered is_key_elsewhere keeps_row key_from key_of equal shown
asked_key Lookup.Code a b c row =
    let f = shown true (field row 2) in
    let g = shown true c in
    rw (coded_by (field row 0) a (field row 1 ∷ f ∷ []) (b ∷ g ∷ []), coded_by (field row 1) b (f ∷ []) (g ∷ []), coded_last f g, in_any_case (field row 2) c)
asked_key Lookup.Name a b c row = rw (coded_by (field row 0) a (field row 1 ∷ []) (b ∷ []), coded_last (field row 1) b)
asked_key Lookup.KeyElsewhere a b c row =
    rw (coded_last (field row 4) b) (and_turned (pairs eqb (field row 0) a) (pairs eqb (field row 4) b) (not (pairs eqb (field row 1) c)))

pub some_asked : (q : Lookup) (a b c : List ℕ) → (rows : List Row) → some_row (is_asked (asks q) a b c) rows ≡ some_row (has_key q (keeps_row q a c) (key_from q a b c)) rows
unfolding some_row
some_asked q a b c [] = refl
some_asked q a b c (row ∷ rows) = ap₂ ◌or◌ (asked_key q a b c row) (some_asked q a b c rows)
