-- Numbers in decimal: a count that is written is read again, and only so.
-- Assumes nothing.
use mathlib.Core.Path.{◌≡◌, refl, sym, ◌∙◌, ap}
use mathlib.Core.Bool.{Bool, true, false}
use mathlib.Core.List.{List, [], ◌∷◌, ◌++◌, append-nil, append_assoc}
use Prim.Native.Nat.{ℕ, zero, suc, ◌+◌, ◌-◌, ◌*◌, ◌/◌, ◌%◌, ◌<◌, ◌≤◌}
use native.Mathlib.Omega.{arith}
use borrow.Author.Tests.{ne_eqb, lt-ltb, le-ltb, le-leb, ltb-true, ltb-false, leb-true, eqb-false, not-true}
use lib.Dec.{eqb, leb, ltb}
use lib.ListN.{length, get_or, length-append, get_or-append}
use Rattle.text_scan.specs.Choice.{◌and◌, ◌or◌, not}
use Rattle.text_scan.specs.Bytes.{is_digit}
use Rattle.text_scan.specs.Lists.{every}
use Rattle.text_scan.proofs.Tests.{never, and_left, and_right, or_true, within}
use Rattle.text_numbers.specs.Numbers.{value_after, decimal_of}
use Rattle.xml_reader.specs.Limits.{rows_limit}
use Rattle.table_file.specs.Accepted.{is_count}
use Rattle.table_join.specs.Written.{digit, digits, decimal}
use Rattle.table_join.proofs.Lists.{every_joined}

-- below 10, and from 10 on
short : (k n : ℕ) → n < 10 → digits (suc k) n ≡ digit n
unfolding digits
short k n h = rw (lt-ltb n 10 h)

long : (k n : ℕ) → 10 ≤ n → digits (suc k) n ≡ digits k (n / 10) ++ digit (n % 10)
unfolding digits
long k n h = rw (le-ltb n 10 h)

-- a number is below 10 or not
cases : {A : Type 0} (n : ℕ) → (n < 10 → A) → (10 ≤ n → A) → A
cases {A} n f g = go (ltb n 10) refl
  where
    go : (t : Bool) → ltb n 10 ≡ t → A
    go true q = f (ltb-true n 10 q)
    go false q = g (ltb-false n 10 q)

-- by a rule for one digit and a rule for one more, of all numbers that have room
module _ (P : ℕ → List ℕ → Type 0)
    (one : (n : ℕ) → n < 10 → P n (digit n))
    (more : (n : ℕ) (ds : List ℕ) → 10 ≤ n → P (n / 10) ds → P n (ds ++ digit (n % 10))) where
  by_digits : (k n : ℕ) → n ≤ k → P n (digits k n)
  by_digits zero n h = unfold digits in one n (omega arith)
  by_digits (suc k) n h =
      cases n (λ g. rw (short k n g) (one n g)) (λ g. rw (long k n g) (more n (digits k (n / 10)) g (by_digits k (n / 10) (omega arith))))

-- ---- a number that is written
snoc_value : (v b : ℕ) (xs : List ℕ) → value_after v (xs ++ b ∷ []) ≡ value_after v xs * 10 + (b - 48)
unfolding value_after
snoc_value v b [] = refl
snoc_value v b (x ∷ xs) = snoc_value (v * 10 + (x - 48)) b xs

pub value_written : (n : ℕ) → decimal_of (decimal n) ≡ n
value_written n = by_digits (λ (m : ℕ) (ds : List ℕ). decimal_of ds ≡ m) one more n n (omega arith)
  where
    one : (m : ℕ) → m < 10 → decimal_of (digit m) ≡ m
    one m h = unfold value_after in omega arith

    more : (m : ℕ) (ds : List ℕ) → 10 ≤ m → decimal_of ds ≡ m / 10 → decimal_of (ds ++ digit (m % 10)) ≡ m
    more m ds h e = snoc_value 0 (m % 10 + 48) ds ∙ rw e (omega arith)

is_digit_lem : (n : ℕ) → n < 10 → every is_digit (digit n) ≡ true
unfolding every
is_digit_lem n h = rw (within 48 57 (n + 48) (omega arith) (omega arith))

pub digits_written : (n : ℕ) → every is_digit (decimal n) ≡ true
digits_written n =
    by_digits (λ (m : ℕ) (ds : List ℕ). every is_digit ds ≡ true) is_digit_lem
    (λ m ds h e. every_joined is_digit ds (digit (m % 10)) e (is_digit_lem (m % 10) (omega arith))) n n (omega arith)

pub some_digit : (n : ℕ) → 0 < length (decimal n)
some_digit n =
    by_digits (λ (m : ℕ) (ds : List ℕ). 0 < length ds) (λ m h. omega arith)
    (λ m ds h e. omega (arith, length-append ds (digit (m % 10)))) n n (omega arith)

-- no leading zero: a number that is not 0 has a first digit that is none
leads : (n : ℕ) → (0 < n → get_or (decimal n) 0 0 ≡ 48 → ⊥) × (0 < length (decimal n))
leads n = by_digits Leads one more n n (omega arith)
  where
    Leads : ℕ → List ℕ → Type 0
    Leads m ds = (0 < m → get_or ds 0 0 ≡ 48 → ⊥) × (0 < length ds)

    one : (m : ℕ) → m < 10 → Leads m (digit m)
    one m h = (λ p e. omega arith, omega arith)

    more : (m : ℕ) (ds : List ℕ) → 10 ≤ m → Leads (m / 10) ds → Leads m (ds ++ digit (m % 10))
    more m ds h e =
        (λ p f. e.0 (omega arith) (sym (get_or-append ds (digit (m % 10)) 0 0 e.1) ∙ f), omega (arith, e.1, length-append ds (digit (m % 10))))

pub count_written : (n : ℕ) → n ≤ rows_limit → is_count (decimal n) ≡ true
unfolding is_count
count_written n h =
    rw (ne_eqb (length (decimal n)) 0 (λ e. omega (arith, some_digit n)), digits_written n, value_written n, le-leb n rows_limit h)
    (ap (λ (t : Bool). t and true) (first n))
  where
    first : (m : ℕ) → eqb (length (decimal m)) 1 or not (eqb (get_or (decimal m) 0 0) 48) ≡ true
    first zero = unfold digits in refl
    first (suc m) = rw (ne_eqb (get_or (decimal (suc m)) 0 0) 48 ((leads (suc m)).0 (omega arith))) (or_true (eqb (length (decimal (suc m))) 1))

-- ---- a count that is read
enough : (k m n : ℕ) → n ≤ k → n ≤ m → digits k n ≡ digits m n
enough zero zero n h g = refl
enough zero (suc m) n h g = unfold digits in rw (lt-ltb n 10 (omega arith))
enough (suc k) zero n h g = unfold digits in rw (lt-ltb n 10 (omega arith))
enough (suc k) (suc m) n h g =
    cases n (λ l. short k n l ∙ sym (short m n l))
    (λ l. long k n l ∙ ap (λ (ds : List ℕ). ds ++ digit (n % 10)) (enough k m (n / 10) (omega arith) (omega arith)) ∙ sym (long m n l))

one_digit : (n : ℕ) → n < 10 → decimal n ≡ digit n
one_digit zero h = unfold digits in refl
one_digit (suc n) h = short n (suc n) h

one_more : (v d : ℕ) → 0 < v → d < 10 → decimal (v * 10 + d) ≡ decimal v ++ digit d
one_more v d p h =
    let k : v * 10 + d ≡ suc (v * 10 + d - 1) = omega arith in
    let a : (v * 10 + d) / 10 ≡ v = omega arith in
    let b : (v * 10 + d) % 10 ≡ d = omega arith in
    ap (λ (m : ℕ). digits m (v * 10 + d)) k ∙ long (v * 10 + d - 1) (v * 10 + d) (omega arith)
    ∙ rw (a, b) (ap (λ (ds : List ℕ). ds ++ digit d) (enough (v * 10 + d - 1) v v (omega arith) (omega arith)))

digit_range : (b : ℕ) → is_digit b ≡ true → (48 ≤ b) × (b ≤ 57)
digit_range b e = (leb-true 48 b (and_left (leb 48 b) (leb b 57) e), leb-true b 57 (and_right (leb 48 b) (leb b 57) e))

all_more : (v : ℕ) (bs : List ℕ) → 0 < v → every is_digit bs ≡ true → decimal (value_after v bs) ≡ decimal v ++ bs
unfolding every value_after
all_more v [] p e = sym (append-nil (decimal v))
all_more v (b ∷ bs) p e =
    let d = digit_range b (and_left (is_digit b) (every is_digit bs) e) in
    let z : b - 48 + 48 ≡ b = omega (arith, d) in
    all_more (v * 10 + (b - 48)) bs (omega arith) (and_right (is_digit b) (every is_digit bs) e)
    ∙ ap (λ (ds : List ℕ). ds ++ bs) (one_more v (b - 48) p (omega (arith, d)))
    ∙ append_assoc (decimal v) (digit (b - 48)) bs ∙ rw z

-- what a count line says, part by part
module _ (a b c d : Bool) (e : a and b and c and d ≡ true) where
  second : b ≡ true
  second = and_left b (c and d) (and_right a (b and c and d) e)

  third : c ≡ true
  third = and_left c d (and_right b (c and d) (and_right a (b and c and d) e))

  fourth : d ≡ true
  fourth = and_right c d (and_right b (c and d) (and_right a (b and c and d) e))

module _ (line : List ℕ) (e : is_count line ≡ true) where
  read_digits : every is_digit line ≡ true
  read_digits =
      unfold is_count in
      second (not (eqb (length line) 0)) (every is_digit line) (eqb (length line) 1 or not (eqb (get_or line 0 0) 48)) (leb (decimal_of line) rows_limit) e

  read_first : eqb (length line) 1 or not (eqb (get_or line 0 0) 48) ≡ true
  read_first =
      unfold is_count in
      third (not (eqb (length line) 0)) (every is_digit line) (eqb (length line) 1 or not (eqb (get_or line 0 0) 48)) (leb (decimal_of line) rows_limit) e

  pub read_most : decimal_of line ≤ rows_limit
  read_most =
      leb-true (decimal_of line) rows_limit
      (unfold is_count in
      fourth (not (eqb (length line) 0)) (every is_digit line) (eqb (length line) 1 or not (eqb (get_or line 0 0) 48)) (leb (decimal_of line) rows_limit) e)

first_digit : (b : ℕ) → is_digit b ≡ true → decimal (0 * 10 + (b - 48)) ≡ b ∷ []
first_digit b e =
    let z : b - 48 + 48 ≡ b = omega (arith, digit_range b e) in
    let y : 0 * 10 + (b - 48) ≡ b - 48 = omega arith in
    rw y (one_digit (b - 48) (omega (arith, digit_range b e)) ∙ rw z)

no_zero : (b : ℕ) (t : Bool) → t ≡ false → t or not (eqb b 48) ≡ true → b ≡ 48 → ⊥
no_zero b t e f = eqb-false b 48 (not-true (eqb b 48) (rw e at f))

pub count_read : (line : List ℕ) → is_count line ≡ true → decimal (decimal_of line) ≡ line
unfolding every value_after is_count
count_read [] e = never (sym e)
count_read (b ∷ []) e = first_digit b (and_left (is_digit b) true (read_digits (b ∷ []) e))
count_read (b ∷ c ∷ cs) e =
    let ds = read_digits (b ∷ c ∷ cs) e in
    let d = and_left (is_digit b) (every is_digit (c ∷ cs)) ds in
    let z = no_zero b (eqb (length (b ∷ c ∷ cs)) 1) (ne_eqb (length (b ∷ c ∷ cs)) 1 (λ f. omega arith)) (read_first (b ∷ c ∷ cs) e) in
    all_more (0 * 10 + (b - 48)) (c ∷ cs) (omega (arith, digit_range b d)) (and_right (is_digit b) (every is_digit (c ∷ cs)) ds)
    ∙ ap (λ (l : List ℕ). l ++ c ∷ cs) (first_digit b d)
