-- The fewest digits of a number are its text in decimal.
-- Assumes nothing.
use mathlib.Core.Path.{◌≡◌, refl, sym, ◌∙◌}
use mathlib.Core.Bool.{Bool, true, false}
use mathlib.Core.List.{[], ◌∷◌, ◌++◌}
use Prim.Native.Nat.{ℕ, zero, suc, ◌+◌, ◌-◌, ◌*◌, ◌/◌, ◌%◌, ◌^◌, ◌<◌, ◌≤◌}
use native.Mathlib.Omega.{arith}
use borrow.Author.Tests.{lt-ltb, le-ltb, leb-true, leb-false}
use lib.Dec.{leb}
use Rattle.program_texts.specs.Digits.{last_digits, IsDigitCount}
use Rattle.table_join.specs.Written.{decimal, digit}
use Rattle.table_join.specs.Written as W

power : (k : ℕ) → 0 < 10 ^ k
power zero = omega arith
power (suc k) = omega (arith, power k)

grows : (a d : ℕ) → 10 ^ a ≤ 10 ^ (a + d)
grows a zero =
    let e : a + 0 ≡ a = omega arith in
    rw e (omega arith)
grows a (suc d) =
    let e : a + suc d ≡ suc (a + d) = omega arith in
    rw e (omega (arith, grows a d))

-- a number of 64 bits has 20 digits at most
pub twenty : (n k : ℕ) → n < 2 ^ 64 → IsDigitCount n k → k ≤ 20
twenty n k h (a, b, c) = go (leb k 20) refl
  where
    go : (t : Bool) → leb k 20 ≡ t → k ≤ 20
    go true e = leb-true k 20 e
    go false e =
        let q : 20 < k = leb-false k 20 e in
        let f : k - 1 ≡ 20 + (k - 21) = omega arith in
        let g : 10 ^ 20 ≤ 10 ^ (k - 1) = rw f (grows 20 (k - 21)) in
        absurd (omega (arith, h, g, c (omega arith)))

one : (f n : ℕ) → n < 10 → W.digits f n ≡ digit n
unfolding W.digits
one zero n h = refl
one (suc f) n h = rw (lt-ltb n 10 h)

more : (f n : ℕ) → 10 ≤ n → W.digits (suc f) n ≡ W.digits f (n / 10) ++ digit (n % 10)
unfolding W.digits
more f n h = rw (le-ltb n 10 h)

last : (n : ℕ) → (48 + n % 10) ∷ [] ≡ digit (n % 10)
last n =
    let e : 48 + n % 10 ≡ n % 10 + 48 = omega arith in
    rw e

same : (k f n : ℕ) → n ≤ f → n < 10 ^ suc k → (0 < k → 10 ^ k ≤ n) → last_digits (suc k) n ≡ W.digits f n
same zero f n h g l =
    let q : n < 10 = omega arith in
    let e : n % 10 ≡ n = omega arith in
    last n ∙ rw e (sym (one f n q))
same (suc k) zero n h g l = absurd (omega (arith, l (omega arith), power (suc k)))
same (suc k) (suc f) n h g l =
    let q : 10 * 10 ^ k ≤ n = omega (arith, l (omega arith)) in
    let b : 10 ≤ n = omega (arith, q, power k) in
    let e : last_digits (suc k) (n / 10) ≡ W.digits f (n / 10) = same k f (n / 10) (omega arith) (omega (arith, g)) (λ p. omega (arith, q)) in
    rw (more f n b, ← e, ← last n)

pub decimal_of_lem : (n k : ℕ) → IsDigitCount n k → last_digits k n ≡ decimal n
decimal_of_lem n zero (a, b, c) = absurd (omega (arith, a))
decimal_of_lem n (suc k) (a, b, c) =
    let e : suc k - 1 ≡ k = omega arith in
    same k n n (omega arith) b (λ p. rw e at (c (omega arith)))
