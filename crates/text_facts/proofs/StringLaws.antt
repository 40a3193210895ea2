-- Strings, GUIDs and labeler codes, by the branches in which the code looks.
-- Assumes nothing.
use mathlib.Core.Path.{◌≡◌, refl, sym, ◌∙◌, ap}
use mathlib.Core.Bool.{Bool, true, false, ◌||◌}
use mathlib.Core.List.{List, [], ◌∷◌, map}
use Prim.Native.Nat.{ℕ}
use native.Mathlib.Omega.{arith}
use borrow.Author.Tests.{eq-eqb, ne_eqb, eqb-true, lt-ltb, le-ltb}
use mathlib.Core.Logic.{◌↔◌}
use Rattle.std.specs.List.{list_any}
use Rattle.std.specs.Char.{to_ascii_lowercase}
use lib.Dec.{eqb}
use lib.ListN.{length, get_or}
use Rattle.text_scan.specs.Choice.{not, ◌or◌, ◌and◌}
use Rattle.text_scan.specs.Bytes.{text, is_digit, is_lower_hex, lower}
use Rattle.text_scan.specs.Lists.{every, pairs}
use Rattle.text_scan.proofs.Tests.{never, not_passed, and_left, and_right, and_true, under, within, over}
use Rattle.text_scan.proofs.Within.{inside}
use Rattle.text_scan.proofs.Lists.{pairs_other}
use Rattle.text_facts.specs.Strings.{equal, equal_in_any_case, guid_byte, is_one_of, reserved, is_labeler_code}

-- ---- equality is what it should be
pub equal_same : (a : List ℕ) → equal a a ≡ true
unfolding equal pairs
equal_same [] = refl
equal_same (x ∷ xs) = rw (eq-eqb x x refl) (equal_same xs)

pub equal_is : (a b : List ℕ) → equal a b ≡ true → a ≡ b
unfolding equal pairs
equal_is [] [] e = refl
equal_is [] (y ∷ ys) e = never (sym e)
equal_is (x ∷ xs) [] e = never (sym e)
equal_is (x ∷ xs) (y ∷ ys) e =
    rw (eqb-true x y (and_left (eqb x y) (pairs eqb xs ys) e)) (ap (λ (l : List ℕ). y ∷ l) (equal_is xs ys (and_right (eqb x y) (pairs eqb xs ys) e)))

-- the library's word on letters
small : (b : ℕ) → to_ascii_lowercase b ≡ lower b
small b =
    inside 65 b (λ h. rw (lt-ltb b 65 h, under 65 90 b h))
    (λ h. inside 91 b (λ g. rw (le-ltb b 65 h, lt-ltb b 91 g, within 65 90 b h (omega arith))) (λ g. rw (le-ltb b 65 h, le-ltb b 91 g, over 65 90 b (omega arith))))

keyed : (a b : List ℕ) → equal (map to_ascii_lowercase a) (map to_ascii_lowercase b) ≡ equal_in_any_case a b
unfolding equal equal_in_any_case pairs
keyed [] [] = refl
keyed [] (y ∷ ys) = refl
keyed (x ∷ xs) [] = refl
keyed (x ∷ xs) (y ∷ ys) = λ i. eqb (small x i) (small y i) and keyed xs ys i

pub any_case : (a b : List ℕ) (r : Bool) → (r ≡ true) ↔ (map to_ascii_lowercase a ≡ map to_ascii_lowercase b) → r ≡ equal_in_any_case a b
any_case a b true h = sym (sym (keyed a b) ∙ rw (h.0 refl) (equal_same _))
any_case a b false h = sym (sym (keyed a b) ∙ not_passed _ (λ e. never (sym (h.1 (equal_is _ _ e)))))

-- ---- GUIDs
module _ (b form : ℕ) where
  pub guid_hyphen : form ≡ 45 → eqb b 45 ≡ guid_byte b form
  guid_hyphen e = rw e

  pub guid_digit : (form ≡ 45 → ⊥) → (t : Bool) → t ≡ is_lower_hex b → t ≡ guid_byte b form
  guid_digit e t f = rw (ne_eqb form 45 e) f

-- ---- labeler codes
pub one_of_any : (s : List ℕ) (ts : List (List ℕ)) → list_any (equal s) ts ≡ is_one_of ts s
unfolding is_one_of
one_of_any s [] = refl
one_of_any s (t ∷ ts) = go (equal s t) (one_of_any s ts)
  where
    go : (b : Bool) → list_any (equal s) ts ≡ is_one_of ts s → (b || list_any (equal s) ts) ≡ b or is_one_of ts s
    go true e = refl
    go false e = e

other_length : (x s : List ℕ) → length x ≡ 4 → length s ≡ 5 → equal s x ≡ false
unfolding equal
other_length x s e f = sym (pairs_other eqb s x (λ g. omega arith))

none_of_five : (s : List ℕ) → length s ≡ 5 → is_one_of reserved s ≡ false
unfolding is_one_of
none_of_five s e =
    rw (other_length (text "0000") s refl e, other_length (text "0001") s refl e, other_length (text "1500") s refl e, other_length (text "1800") s refl e, other_length (text "1900") s refl e)

module _ (s : List ℕ) (t : Bool) (e : t ≡ every is_digit s) where
  pub code_other : t ≡ false → false ≡ is_labeler_code s
  unfolding is_labeler_code
  code_other f = rw (← e, f)

  module _ (f : t ≡ true) where
    pub code_four : (r : Bool) → length s ≡ 4 → r ≡ is_one_of reserved s → not r ≡ is_labeler_code s
    unfolding is_labeler_code
    code_four r g h = rw (← e, f, g, ← h)

    pub code_five : length s ≡ 5 → not (eqb (get_or s 0 0) 48) ≡ is_labeler_code s
    unfolding is_labeler_code
    code_five g = rw (← e, f, none_of_five s g, g) (sym (and_true (not (eqb (get_or s 0 0) 48))))

    pub code_length : (length s ≡ 4 → ⊥) → (length s ≡ 5 → ⊥) → false ≡ is_labeler_code s
    unfolding is_labeler_code
    code_length g h = rw (← e, f, ne_eqb _ 4 g, ne_eqb _ 5 h)
