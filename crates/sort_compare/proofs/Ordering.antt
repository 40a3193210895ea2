-- The order on names: total, transitive, and the same only for equal names; and what it says of their first bytes.
-- Assumes nothing.
use mathlib.Core.Path.{◌≡◌, refl, sym, ◌∙◌, ap, ap₂}
use mathlib.Core.Bool.{Bool, true, false}
use mathlib.Core.List.{List, [], ◌∷◌}
use Prim.Native.Nat.{ℕ, zero, suc, ◌<◌, ◌≤◌}
use native.Mathlib.Omega.{arith}
use borrow.Author.Tests.{lt-ltb, le-ltb, ltb-true, ltb-false}
use lib.Dec.{ltb}
use Rattle.text_scan.proofs.Tests.{never}
use Rattle.std.specs.declared.cmp.Ordering.{Ordering}
use Rattle.std.specs.declared.cmp.Ordering.TheVariants.{Less, Equal, Greater}
use Rattle.std.specs.Ordering.{nat_cmp}
use Rattle.std.specs.Cmp.{nat_cmp_is}
use Rattle.std.specs.Ordering.{is_le}
use Rattle.sort_compare.specs.Order.{order}

-- ---- the orders differ
abbrev is_less : Ordering → Bool
is_less Less = true
is_less Equal = false
is_less Greater = false

abbrev is_same : Ordering → Bool
is_same Less = false
is_same Equal = true
is_same Greater = false

pub same_less : {A : Type 0} → Equal ≡ Less → A
same_less e = never (sym (ap is_less e))

pub more_less : {A : Type 0} → Greater ≡ Less → A
more_less e = never (sym (ap is_less e))

pub more_same : {A : Type 0} → Greater ≡ Equal → A
more_same e = never (sym (ap is_same e))

-- not after is before or the same
pub in_order_lem : {A : Type 0} (o : Ordering) → is_le o ≡ true → (o ≡ Less → A) → (o ≡ Equal → A) → A
in_order_lem Less e f g = f refl
in_order_lem Equal e f g = g refl
in_order_lem Greater e f g = never (sym e)

-- a number is less than another, the same or more
pub compared : {A : Type 0} (x y : ℕ) → (x < y → A) → (x ≡ y → A) → (y < x → A) → A
compared {A} x y f g h = go (ltb x y) (ltb y x) refl refl
  where
    go : (t u : Bool) → ltb x y ≡ t → ltb y x ≡ u → A
    go true u p q = f (ltb-true x y p)
    go false true p q = h (ltb-true y x q)
    go false false p q = let a : y ≤ x = ltb-false x y p in let b : x ≤ y = ltb-false y x q in g (omega arith)

-- what `cmp` answers of two numbers, by its cases
pub told : (x y : ℕ) (r o : Ordering) → r ≡ nat_cmp x y → (x < y → Less ≡ o) → (x ≡ y → Equal ≡ o) → (y < x → Greater ≡ o) → r ≡ o
told x y r o e f g h = e ∙ compared x y (λ p. sym (nat_cmp_is x y Less p) ∙ f p) (λ p. sym (nat_cmp_is x y Equal p) ∙ g p) (λ p. sym (nat_cmp_is x y Greater p) ∙ h p)

-- ---- by the first elements
module _ (x y : ℕ) (xs ys : List ℕ) where
  pub by_less : x < y → order (x ∷ xs) (y ∷ ys) ≡ Less
  unfolding order
  by_less h = rw (lt-ltb x y h)

  pub by_more : y < x → order (x ∷ xs) (y ∷ ys) ≡ Greater
  unfolding order
  by_more h = let g : y ≤ x = omega arith in rw (le-ltb x y g, lt-ltb y x h)

  pub by_rest : x ≡ y → order (x ∷ xs) (y ∷ ys) ≡ order xs ys
  unfolding order
  by_rest e = let g : y ≤ x = omega arith in let h : x ≤ y = omega arith in rw (le-ltb x y g, le-ltb y x h)

  less_by : {A : Type 0} → order (x ∷ xs) (y ∷ ys) ≡ Less → (x < y → A) → (x ≡ y → order xs ys ≡ Less → A) → A
  less_by e f g = compared x y f (λ h. g h (sym (by_rest h) ∙ e)) (λ h. more_less (sym (by_more h) ∙ e))

-- ---- the laws of an order
pub order_refl : (l : List ℕ) → order l l ≡ Equal
unfolding order
order_refl [] = refl
order_refl (x ∷ xs) = by_rest x x xs xs refl ∙ order_refl xs

pub order_same : (l m : List ℕ) → order l m ≡ Equal → l ≡ m
unfolding order
order_same [] [] e = refl
order_same [] (y ∷ ys) e = same_less (sym e)
order_same (x ∷ xs) [] e = never (ap is_same (sym e))
order_same (x ∷ xs) (y ∷ ys) e =
    compared x y (λ h. same_less (sym e ∙ by_less x y xs ys h))
    (λ h. ap₂ (λ z zs. z ∷ zs) h (order_same xs ys (sym (by_rest x y xs ys h) ∙ e)))
    (λ h. never (ap is_same (sym e ∙ by_more x y xs ys h)))

pub order_more : (l m : List ℕ) → order l m ≡ Greater → order m l ≡ Less
unfolding order
order_more [] [] e = never (ap is_same e)
order_more [] (y ∷ ys) e = more_less (sym e)
order_more (x ∷ xs) [] e = refl
order_more (x ∷ xs) (y ∷ ys) e =
    compared x y (λ h. more_less (sym e ∙ by_less x y xs ys h))
    (λ h. by_rest y x ys xs (sym h) ∙ order_more xs ys (sym (by_rest x y xs ys h) ∙ e))
    (λ h. by_less y x ys xs h)

pub order_trans : (l m n : List ℕ) → order l m ≡ Less → order m n ≡ Less → order l n ≡ Less
unfolding order
order_trans [] [] n e f = same_less e
order_trans [] (y ∷ ys) [] e f = more_less f
order_trans [] (y ∷ ys) (z ∷ zs) e f = refl
order_trans (x ∷ xs) [] n e f = more_less e
order_trans (x ∷ xs) (y ∷ ys) [] e f = more_less f
order_trans (x ∷ xs) (y ∷ ys) (z ∷ zs) e f =
    less_by x y xs ys e
    (λ h. less_by y z ys zs f (λ g. by_less x z xs zs (omega arith)) (λ g _. by_less x z xs zs (omega arith)))
    (λ h a. less_by y z ys zs f (λ g. by_less x z xs zs (omega arith)) (λ g b. by_rest x z xs zs (h ∙ g) ∙ order_trans xs ys zs a b))

pub order_less : (l m : List ℕ) → order l m ≡ Less → order m l ≡ Greater
unfolding order
order_less [] [] e = same_less e
order_less [] (y ∷ ys) e = refl
order_less (x ∷ xs) [] e = more_less e
order_less (x ∷ xs) (y ∷ ys) e =
    less_by x y xs ys e (λ h. by_more y x ys xs h) (λ h a. by_rest y x ys xs (sym h) ∙ order_less xs ys a)

-- what is not after something is before what that is before
pub before_less : (l m n : List ℕ) → is_le (order l m) ≡ true → order m n ≡ Less → order l n ≡ Less
before_less l m n e f = in_order_lem (order l m) e (λ g. order_trans l m n g f) (λ g. rw (order_same l m g) f)

-- what is before something is before what that is not after
pub less_before : (l m n : List ℕ) → order l m ≡ Less → is_le (order m n) ≡ true → order l n ≡ Less
less_before l m n e f = in_order_lem (order m n) f (order_trans l m n e) (λ g. rw (← order_same m n g) e)

-- what something is not after is after what that is after
pub after_more : (l m n : List ℕ) → is_le (order l m) ≡ true → order l n ≡ Greater → order m n ≡ Greater
after_more l m n e f =
    in_order_lem (order l m) e
    (λ g. order_less n m (order_trans n l m (order_more l n f) g))
    (λ g. rw (← order_same l m g) f)

-- what is after something, that is not after it
pub in_order_turned : (l m : List ℕ) → is_le (order l m) ≡ false → is_le (order m l) ≡ true
in_order_turned l m e = go (order l m) refl
  where
    go : (o : Ordering) → order l m ≡ o → is_le (order m l) ≡ true
    go Less f = never (ap is_le (sym f) ∙ e)
    go Equal f = never (ap is_le (sym f) ∙ e)
    go Greater f = rw (order_more l m f)

-- what is not after something is not after what that is not after, and two of which neither is after the other are equal
pub in_order_trans : (l m n : List ℕ) → is_le (order l m) ≡ true → is_le (order m n) ≡ true → is_le (order l n) ≡ true
in_order_trans l m n e f =
    in_order_lem (order l m) e (λ g. rw (less_before l m n g f)) (λ g. rw (order_same l m g) f)

pub in_order_both : (l m : List ℕ) → is_le (order l m) ≡ true → is_le (order m l) ≡ true → l ≡ m
in_order_both l m e f =
    in_order_lem (order l m) e (λ g. never (sym f ∙ rw (order_less l m g))) (order_same l m)

-- ---- a name that goes on with the byte x, or ends where x is 0
abbrev pub begun : ℕ → List ℕ → List ℕ
begun zero l = []
begun (suc n) l = suc n ∷ l

pub begun_same : (x y : ℕ) (l m : List ℕ) → x ≡ y → x ≡ 0 → order (begun x l) (begun y m) ≡ Equal
unfolding order
begun_same x y l m e z = rw (sym e ∙ z, z)

pub begun_goes : (x y : ℕ) (l m : List ℕ) → x ≡ y → (x ≡ 0 → ⊥) → order (begun x l) (begun y m) ≡ order l m
begun_goes zero y l m e z = absurd (z refl)
begun_goes (suc x) zero l m e z = absurd (z e)
begun_goes (suc x) (suc y) l m e z = by_rest (suc x) (suc y) l m e

pub begun_less : (x y : ℕ) (l m : List ℕ) → x < y → order (begun x l) (begun y m) ≡ Less
unfolding order
begun_less x zero l m h = absurd (omega arith)
begun_less zero (suc y) l m h = refl
begun_less (suc x) (suc y) l m h = by_less (suc x) (suc y) l m h

pub begun_more : (x y : ℕ) (l m : List ℕ) → y < x → order (begun x l) (begun y m) ≡ Greater
unfolding order
begun_more zero y l m h = absurd (omega arith)
begun_more (suc x) zero l m h = refl
begun_more (suc x) (suc y) l m h = by_more (suc x) (suc y) l m h
