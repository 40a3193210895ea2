-- Digits and a semicolon, by what the loop of `number_at` knows.
-- Assumes nothing.
use Rattle.std.specs.Prelude.{None}
use mathlib.Core.Path.{◌≡◌, refl, sym, ◌∙◌}
use mathlib.Core.Bool.{Bool, true, false}
use mathlib.Core.List.{List, [], ◌∷◌}
use Prim.Native.Nat.{ℕ, ◌+◌, ◌-◌, ◌*◌, ◌<◌, ◌≤◌}
use Prim.Native.Char.{code}
use native.Mathlib.Nat.{mul-le-mul, le-mul_of_pos_right}
use native.Mathlib.Omega.{arith}
use borrow.Author.Tests.{eq-eqb, ne_eqb, lt-ltb, le-ltb, lt-leb}
use lib.Dec.{ltb}
use lib.ListN.{length, drop, get_or, drop_of_length-le}
use mir.Val.{Fits}
use mir.Syntax.{w32}
use Rattle.text_scan.proofs.Tests.{and_false, pick_same}
use Rattle.text_scan.proofs.Within.{drop_here}
use Rattle.text_chars.specs.Utf8.{is_xml_char}
use Rattle.text_chars.proofs.Chars.{third}
use Rattle.xml_references.specs.References.{digit_value, number}
use Rattle.xml_references.specs.References.{refers}

-- ---- the value stays in a u32
pub mul_small : (v base : ℕ) → v ≤ 0x10FFFF → base ≤ 16 → Fits w32 (v * base)
mul_small v base h g = omega (arith, mul-le-mul h g)

pub add_small : (v base d : ℕ) → v ≤ 0x10FFFF → base ≤ 16 → d < base → Fits w32 (v * base + d)
add_small v base d h g k = omega (arith, mul-le-mul h g)

-- ---- a value that is too large stays too large, and names no Char
large : (v : ℕ) → 0x10FFFF < v → is_xml_char v ≡ false
large v h = sym (third v (omega arith)) ∙ lt-leb v 0x10FFFF h

overflow : (base v w : ℕ) (xs : List ℕ) → 0 < base → 0x10FFFF < v → number base v w xs ≡ None
unfolding number
overflow base v w [] p h = refl
overflow base v w (x ∷ xs) p h =
    simp (overflow base (v * base + digit_value x) (w + 1) xs p (omega (arith, le-mul_of_pos_right v p)), large v h, and_false)
    (pick_same (ltb (digit_value x) base) None)

-- ---- the loop
abbrev pub Left : List ℕ → ℕ → ℕ → ℕ → ℕ → ℕ → Type 0
Left s i start base v w = number base 0 start (drop (i + start) s) ≡ number base v w (drop (i + w) s)

module _ (s : List ℕ) (i start base v w : ℕ) (l : Left s i start base v w) where
  module _ (d : ℕ) (e : d ≡ digit_value (get_or s (i + w) 0)) (h : w < length s - i) where
    stepped : d < base → number base v w (drop (i + w) s) ≡ number base (v * base + d) (w + 1) (drop (i + (w + 1)) s)
    unfolding number
    stepped g =
        let a : i + (w + 1) ≡ i + w + 1 = omega arith in
        rw (a, drop_here s (i + w) (omega arith), ← e, lt-ltb d base g)

    pub next : d < base → Left s i start base (v * base + d) (w + 1)
    next g = l ∙ stepped g

    pub too_large : 0 < base → d < base → 0x10FFFF < v * base + d → None ≡ number base 0 start (drop (i + start) s)
    too_large p g k = sym (l ∙ stepped g ∙ overflow base (v * base + d) (w + 1) (drop (i + (w + 1)) s) p k)

    pub other : base ≤ d → (get_or s (i + w) 0 ≡ code ";" → ⊥) → None ≡ number base 0 start (drop (i + start) s)
    unfolding number
    other g k = sym (l ∙ rw (drop_here s (i + w) (omega arith), ← e, le-ltb d base g, ne_eqb (get_or s (i + w) 0) (code ";") k))

    module _ (t : Bool) (g : base ≤ d) (k : get_or s (i + w) 0 ≡ code ";") (x : t ≡ is_xml_char v) where
      pub ended : t ≡ true → refers (w + 1) v ≡ number base 0 start (drop (i + start) s)
      unfolding number
      ended y = sym (l ∙ rw (drop_here s (i + w) (omega arith), ← e, le-ltb d base g, eq-eqb (get_or s (i + w) 0) (code ";") k, ← x, y))

      pub no_char : t ≡ false → None ≡ number base 0 start (drop (i + start) s)
      unfolding number
      no_char y = sym (l ∙ rw (drop_here s (i + w) (omega arith), ← e, le-ltb d base g, eq-eqb (get_or s (i + w) 0) (code ";") k, ← x, y))

  pub out : length s - i ≤ w → None ≡ number base 0 start (drop (i + start) s)
  unfolding number
  out h =
      let a : length s ≤ i + w = omega arith in
      sym (l ∙ rw (drop_of_length-le s a))
