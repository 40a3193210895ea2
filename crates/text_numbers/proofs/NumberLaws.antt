-- Decimal values, by what the loop of `value` knows: after i digits the value is below the i-th power of ten.
-- Assumes nothing.
use mathlib.Core.Path.{◌≡◌, sym, ◌∙◌}
use mathlib.Core.Bool.{Bool, true, false}
use mathlib.Core.List.{List}
use Prim.Native.Nat.{ℕ, ◌+◌, ◌-◌, ◌*◌, ◌^◌, ◌<◌, ◌≤◌}
use native.Mathlib.Nat.{pow-succ', pow-le-pow_right}
use native.Mathlib.Numerals.{add-one}
use native.Mathlib.Omega.{arith}
use borrow.Author.Tests.{leb-true}
use lib.Dec.{leb}
use lib.ListN.{length, drop, get_or, drop_of_length-le}
use mir.Val.{Fits}
use mir.Syntax.{w32}
use Rattle.text_scan.specs.Bytes.{is_digit}
use Rattle.text_scan.specs.Lists.{every}
use Rattle.text_scan.proofs.Tests.{and_right, under, over, within}
use Rattle.text_scan.proofs.Within.{drop_here}
use Rattle.text_scan.proofs.Lists.{every_at}
use Rattle.text_numbers.specs.Numbers.{value_after, decimal_of, version_of}

abbrev pub Told : List ℕ → ℕ → ℕ → Type 0
Told s v i = (decimal_of s ≡ value_after v (drop i s)) × (v < 10 ^ i)

small_digit : (s : List ℕ) (i : ℕ) → every is_digit s ≡ true → i < length s → get_or s i 0 - 48 < 10
small_digit s i e h =
    let d : is_digit (get_or s i 0) ≡ true = every_at is_digit s i e h in
    omega (arith, leb-true (get_or s i 0) 57 (and_right (leb 48 (get_or s i 0)) _ d))

module _ (s : List ℕ) (v i : ℕ) (w : Told s v i) (few : length s ≤ 9) (h : i < length s) where
  room : v < 10 ^ 8
  room = omega (arith, pow-le-pow_right {n = 10} (omega arith) {i = i} {j = 8} (omega arith), w.1)

  pub mul_fits : Fits w32 (v * 10)
  mul_fits = omega (arith, room)

  module _ (digits : every is_digit s ≡ true) (d : ℕ) (e : d ≡ get_or s i 0 - 48) where
    pub add_fits : Fits w32 (v * 10 + d)
    add_fits = omega (arith, room, small_digit s i digits h)

    pub told_again : Told s (v * 10 + d) (i + 1)
    unfolding value_after
    told_again = (
      w.0 ∙ rw (drop_here s i h, e),
      let p : 10 ^ (i + 1) ≡ 10 * 10 ^ i = rw (add-one) (pow-succ' 10 i) in
          omega (arith, small_digit s i digits h, w.1),
    )

pub told : (s : List ℕ) (v i : ℕ) → Told s v i → length s ≤ i → v ≡ decimal_of s
unfolding value_after
told s v i w h = sym (w.0 ∙ rw (drop_of_length-le s h))

-- ---- versions
module _ (s : List ℕ) where
  pub version_none : length s < 1 → 0 ≡ version_of s
  unfolding version_of
  version_none h = rw (under 1 9 (length s) h)

  pub version_long : 9 < length s → 0 ≡ version_of s
  unfolding version_of
  version_long h = rw (over 1 9 (length s) h)

  module _ (h : 1 ≤ length s) (g : length s ≤ 9) (t : Bool) (e : t ≡ every is_digit s) where
    pub version_digits : (r : ℕ) → t ≡ true → r ≡ decimal_of s → r ≡ version_of s
    unfolding version_of
    version_digits r f q = rw (within 1 9 (length s) h g, ← e, f) q

    pub version_other : t ≡ false → 0 ≡ version_of s
    unfolding version_of
    version_other f = rw (within 1 9 (length s) h g, ← e, f)
