-- Days, by the tests in which the code looks.
-- Assumes nothing.
use mathlib.Core.Path.{◌≡◌, sym, ◌∙◌}
use mathlib.Core.Bool.{Bool, true, false}
use mathlib.Core.List.{List}
use Prim.Native.Nat.{ℕ, ◌-◌, ◌%◌, ◌<◌, ◌≤◌}
use native.Mathlib.Omega.{arith}
use borrow.Author.Tests.{ne_eqb, le-leb, lt-leb}
use lib.Dec.{eqb, leb}
use lib.ListN.{length, take, drop, get_or, length-take}
use Rattle.text_scan.specs.Choice.{not}
use Rattle.text_scan.specs.Bytes.{is_digit}
use Rattle.text_scan.specs.Lists.{every}
use Rattle.text_scan.proofs.Tests.{under, over, within}
use Rattle.text_scan.proofs.Lists.{every_take, every_drop}
use Rattle.text_numbers.specs.Numbers.{decimal_of}
use Rattle.text_numbers.specs.Days.{is_leap, month_lengths, month_length, is_date, is_day}

module _ (y : ℕ) where
  pub common_year : (y % 4 ≡ 0 → ⊥) → eqb (y % 4) 0 ≡ is_leap y
  unfolding is_leap
  common_year h = rw (ne_eqb _ 0 h)

  pub fourth_year : y % 4 ≡ 0 → (y % 100 ≡ 0 → ⊥) → not (eqb (y % 100) 0) ≡ is_leap y
  unfolding is_leap
  fourth_year h g = rw (h, ne_eqb _ 0 g)

  pub century : y % 4 ≡ 0 → y % 100 ≡ 0 → eqb (y % 400) 0 ≡ is_leap y
  unfolding is_leap
  century h g = rw (h, g)

module _ (y m : ℕ) where
  pub leap_february : m ≡ 2 → (t : Bool) → t ≡ is_leap y → t ≡ true → 29 ≡ month_length y m
  unfolding month_length
  leap_february e t f g = rw (e, ← f, g)

  pub february : m ≡ 2 → (t : Bool) → t ≡ is_leap y → t ≡ false → 28 ≡ month_length y m
  unfolding month_length
  february e t f g = rw (e, ← f, g)

  pub month : (m ≡ 2 → ⊥) → get_or month_lengths (m - 1) 0 ≡ month_length y m
  unfolding month_length
  month e = rw (ne_eqb m 2 e)

module _ (y m d : ℕ) where
  pub no_year : y < 1 → false ≡ is_date y m d
  unfolding is_date
  no_year h = rw (lt-leb 1 y h)

  module _ (hy : 1 ≤ y) where
    pub before_january : m < 1 → false ≡ is_date y m d
    unfolding is_date
    before_january h = rw (le-leb 1 y hy, under 1 12 m h)

    pub after_december : 12 < m → false ≡ is_date y m d
    unfolding is_date
    after_december h = rw (le-leb 1 y hy, over 1 12 m h)

    module _ (lo : 1 ≤ m) (hi : m ≤ 12) where
      pub before_first : d < 1 → false ≡ is_date y m d
      unfolding is_date
      before_first h = rw (le-leb 1 y hy, within 1 12 m lo hi, under 1 (month_length y m) d h)

      pub in_month : (n : ℕ) → 1 ≤ d → n ≡ month_length y m → leb d n ≡ is_date y m d
      unfolding is_date
      in_month n h e = rw (le-leb 1 y hy, within 1 12 m lo hi, ← e, le-leb 1 d h)

module _ (s : List ℕ) where
  pub not_eight : (length s ≡ 8 → ⊥) → false ≡ is_day s
  unfolding is_day
  not_eight h = rw (ne_eqb _ 8 h)

  module _ (h : length s ≡ 8) (t : Bool) (e : t ≡ every is_digit s) where
    pub not_digits : t ≡ false → false ≡ is_day s
    unfolding is_day
    not_digits f = rw (h, ← e, f)

    -- the digits from i on, n of them, are digits
    pub part_digits : (n i : ℕ) → t ≡ true → every is_digit (take n (drop i s)) ≡ true
    part_digits n i f = every_take is_digit n (drop i s) (every_drop is_digit i s (sym e ∙ f))

    pub date : (y m d : ℕ) (r : Bool) → t ≡ true → y ≡ decimal_of (take 4 s) → m ≡ decimal_of (take 2 (drop 4 s)) → d ≡ decimal_of (take 2 (drop 6 s)) → r ≡ is_date y m d → r ≡ is_day s
    unfolding is_day
    date y m d r f a b c q = rw (h, ← e, f, ← a, ← b, ← c) q

pub part_short : (s : List ℕ) (n i : ℕ) → n ≤ 9 → length (take n (drop i s)) ≤ 9
part_short s n i h = rw (length-take n (drop i s)) (omega arith)
