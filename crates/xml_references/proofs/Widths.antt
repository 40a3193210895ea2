-- A reference that stands at a position: it is at least four bytes wide, ends within, and stands for a Char, whose bytes are no more.
-- Assumes nothing.
use Rattle.std.specs.Prelude.{Option, None, Some}
use mathlib.Core.Path.{◌≡◌, refl, subst}
use mathlib.Core.Bool.{Bool, true, false}
use mathlib.Core.List.{List, [], ◌∷◌}
use Prim.Native.Nat.{ℕ, ◌+◌, ◌*◌, ◌≤◌}
use Prim.Native.Char.{code}
use native.Mathlib.Omega.{arith}
use borrow.Author.Tests.{leb-true}
use lib.Dec.{leb, ltb, eqb}
use lib.ListN.{length, drop, length-drop}
use Rattle.text_scan.specs.Choice.{pick, ◌and◌}
use Rattle.text_scan.specs.Bytes.{text}
use Rattle.text_scan.specs.Lists.{begins}
use Rattle.text_scan.proofs.Tests.{pick_case, and_left, and_right, and_false}
use Rattle.text_scan.proofs.Lists.{text_fits}
use Rattle.text_chars.specs.Utf8.{is_xml_char}
use Rattle.text_encode.specs.Encode.{encoded}
use Rattle.text_encode.proofs.Forms.{encoded_most}
use Rattle.xml_references.specs.declared.Reference.{Reference}
use Rattle.xml_references.specs.References.{digit_value, number, Named, names, entity_named, reference_of, reference_at}
use Rattle.xml_references.specs.References.{refers}

-- a width from lo to hi, and a Char
abbrev Good : ℕ → ℕ → Option Reference → Type 0
Good lo hi (Some p) = (lo ≤ p.width) × (p.width ≤ hi) × (is_xml_char p.character ≡ true)
Good lo hi None = Unit {0}

-- ---- a number
module _ (lo hi base : ℕ) where
  number_good : (v w : ℕ) (xs : List ℕ) → lo ≤ w + 1 → w + length xs ≤ hi → Good lo hi (number base v w xs)
  unfolding number
  number_good v w [] h g = tt
  number_good v w (x ∷ xs) h g =
      pick_case (Good lo hi) (ltb (digit_value x) base) (number base (v * base + digit_value x) (w + 1) xs)
      (pick (eqb x (code ";") and is_xml_char v) (refers (w + 1) v) None)
      (λ _. number_good (v * base + digit_value x) (w + 1) xs (omega arith) (omega arith))
      (λ _. pick_case (Good lo hi) (eqb x (code ";") and is_xml_char v) (refers (w + 1) v) None (λ e. (h, omega arith, and_right (eqb x (code ";")) (is_xml_char v) e)) (λ _. tt))

  -- without a digit the value is 0, which is no Char
  some_digit : (w : ℕ) (xs : List ℕ) → lo ≤ w + 2 → w + length xs ≤ hi → Good lo hi (number base 0 w xs)
  unfolding number is_xml_char
  some_digit w [] h g = tt
  some_digit w (x ∷ xs) h g =
      pick_case (Good lo hi) (ltb (digit_value x) base) (number base (0 * base + digit_value x) (w + 1) xs)
      (pick (eqb x (code ";") and false) (refers (w + 1) 0) None)
      (λ _. number_good (0 * base + digit_value x) (w + 1) xs (omega arith) (omega arith))
      (λ _. rw (and_false (eqb x (code ";"))) tt)

-- ---- a name
fine : List Named → Bool
fine [] = true
fine (n ∷ ns) = (leb 4 (length n.0) and is_xml_char n.1) and fine ns

named_good : (ns : List Named) (xs : List ℕ) → fine ns ≡ true → Good 4 (length xs) (entity_named ns xs)
unfolding fine entity_named
named_good [] xs e = tt
named_good (n ∷ ns) xs e =
    pick_case (Good 4 (length xs)) (begins n.0 xs) (refers (length n.0) n.1) (entity_named ns xs)
    (λ b. (long, omega (arith, text_fits n.0 xs 0 (omega (arith, long)) b), and_right (leb 4 (length n.0)) (is_xml_char n.1) here))
    (λ _. named_good ns xs (and_right (leb 4 (length n.0) and is_xml_char n.1) (fine ns) e))
  where
    here : leb 4 (length n.0) and is_xml_char n.1 ≡ true
    here = and_left (leb 4 (length n.0) and is_xml_char n.1) (fine ns) e

    long : 4 ≤ length n.0
    long = leb-true 4 (length n.0) (and_left (leb 4 (length n.0)) (is_xml_char n.1) here)

names_fine : fine names ≡ true
unfolding fine is_xml_char
names_fine = refl

-- ---- any reference
reference_good : (xs : List ℕ) → Good 4 (length xs) (reference_of xs)
unfolding reference_of
reference_good xs =
    pick_case (Good 4 (length xs)) (begins (text "&#x") xs) (number 16 0 3 (drop 3 xs))
    (pick (begins (text "&#") xs) (number 10 0 2 (drop 2 xs)) (entity_named names xs))
    (λ b. some_digit 4 (length xs) 16 3 (drop 3 xs) (omega arith) (omega (arith, length-drop 3 xs, text_fits (text "&#x") xs 0 (omega arith) b)))
    (λ _. pick_case (Good 4 (length xs)) (begins (text "&#") xs) (number 10 0 2 (drop 2 xs)) (entity_named names xs)
    (λ b. some_digit 4 (length xs) 10 2 (drop 2 xs) (omega arith) (omega (arith, length-drop 2 xs, text_fits (text "&#") xs 0 (omega arith) b)))
    (λ _. named_good names xs names_fine))

module _ (s : List ℕ) (i w c : ℕ) (e : reference_at s i ≡ refers w c) where
  good : Good 4 (length (drop i s)) (refers w c)
  good = subst (Good 4 (length (drop i s))) e (reference_good (drop i s))

  pub reference_least : 4 ≤ w
  reference_least = good.0

  pub reference_fits : i + w ≤ length s
  reference_fits = omega (arith, good.0, good.1, length-drop i s)

  pub reference_char : is_xml_char c ≡ true
  reference_char = good.2

  -- decoding never grows
  pub reference_room : length (encoded c) ≤ w
  reference_room = omega (arith, good.0, encoded_most c)
