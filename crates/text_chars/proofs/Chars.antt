-- Which numbers are a Char, by their range.
-- Assumes nothing.
use mathlib.Core.Path.{◌≡◌, sym, refl, ◌∙◌}
use mathlib.Core.Bool.{true, false, Bool}
use Prim.Native.Nat.{ℕ, ◌≤◌}
use native.Mathlib.Omega.{arith}
use borrow.Author.Tests.{le-leb, ne_eqb, leb-true, leb-false}
use lib.Dec.{leb}
use Rattle.text_scan.specs.Choice.{◌or◌, between}
use Rattle.text_scan.proofs.Tests.{within, over, never}
use Rattle.text_chars.specs.Utf8.{is_xml_char}

module _ (x : ℕ) where
  no_control : 0x20 ≤ x → is_xml_char x ≡ between 0x20 0xD7FF x or between 0xE000 0xFFFD x or between 0x10000 0x10FFFF x
  unfolding is_xml_char
  no_control h = rw (ne_eqb x 9 (λ e. omega arith), ne_eqb x 10 (λ e. omega arith), ne_eqb x 13 (λ e. omega arith))

  pub first : 0x20 ≤ x → x ≤ 0xD7FF → true ≡ is_xml_char x
  first h g = rw (no_control h, within 0x20 0xD7FF x h g)

  pub third : 0x10000 ≤ x → leb x 0x10FFFF ≡ is_xml_char x
  third h = rw (no_control (omega arith), over 0x20 0xD7FF x (omega arith), over 0xE000 0xFFFD x (omega arith), le-leb 0x10000 x h)

-- a Char is at most 10FFFF
pub char_most : (c : ℕ) → is_xml_char c ≡ true → c ≤ 0x10FFFF
char_most c e = go (leb c 0x10FFFF) refl
  where
    go : (t : Bool) → leb c 0x10FFFF ≡ t → c ≤ 0x10FFFF
    go true q = leb-true c 0x10FFFF q
    go false q = never (sym e ∙ sym (third c (omega (arith, leb-false c 0x10FFFF q))) ∙ q)
