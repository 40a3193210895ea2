-- Laws of the tests and choices in which the definitions are written.
-- Assumes nothing.
use mathlib.Core.Path.{◌≡◌, refl, sym, ◌∙◌}
use mathlib.Core.Bool.{Bool, true, false}
use Prim.Native.Nat.{ℕ, ◌<◌, ◌≤◌}
use native.Mathlib.Omega.{arith}
use borrow.Author.Tests.{lt-leb, le-leb}
use lib.Dec.{leb}
use Rattle.text_scan.specs.Choice.{pick, ◌or◌, ◌and◌, between}

pub never : {A : Type 0} → true ≡ false → A
never e = absurd (let z : ◌≡◌ {A = ℕ} 0 1 = cc in omega arith)

-- a test that is not passed
pub not_passed : (t : Bool) → (t ≡ true → ⊥) → t ≡ false
not_passed true f = absurd (f refl)
not_passed false f = refl

-- a choice has what both of its sides have
pub pick_case : {A : Type 0} (P : A → Type 0) (t : Bool) (x y : A) → (t ≡ true → P x) → (t ≡ false → P y) → P (pick t x y)
pick_case P true x y f g = f refl
pick_case P false x y f g = g refl

pub pick_same : {A : Type 0} (t : Bool) (x : A) → pick t x x ≡ x
pick_same true x = refl
pick_same false x = refl

pub or_true : (a : Bool) → a or true ≡ true
or_true true = refl
or_true false = refl

pub or_false : (a : Bool) → a or false ≡ a
or_false true = refl
or_false false = refl

pub or_left : (a b : Bool) → a or b ≡ false → a ≡ false
or_left true b e = never e
or_left false b e = refl

pub or_right : (a b : Bool) → a or b ≡ false → b ≡ false
or_right true b e = never e
or_right false b e = e

pub or_join : (a b c : Bool) → (a or b) or c ≡ a or b or c
or_join true b c = refl
or_join false b c = refl

pub and_true : (a : Bool) → a and true ≡ a
and_true true = refl
and_true false = refl

pub and_false : (a : Bool) → a and false ≡ false
and_false true = refl
and_false false = refl

pub and_left : (a b : Bool) → a and b ≡ true → a ≡ true
and_left true b e = refl
and_left false b e = never (sym e)

pub and_right : (a b : Bool) → a and b ≡ true → b ≡ true
and_right true b e = e
and_right false b e = never (sym e)

pub and_join : (a b c : Bool) → (a and b) and c ≡ a and b and c
and_join true b c = refl
and_join false b c = refl

-- below, within and above a range
pub under : (lo hi x : ℕ) → x < lo → between lo hi x ≡ false
under lo hi x h = rw (lt-leb lo x h)

pub within : (lo hi x : ℕ) → lo ≤ x → x ≤ hi → between lo hi x ≡ true
within lo hi x h g = rw (le-leb lo x h, le-leb x hi g)

pub over : (lo hi x : ℕ) → hi < x → between lo hi x ≡ false
over lo hi x h = rw (lt-leb x hi h) (and_false (leb lo x))

-- what a call answered, where the caller tests it
pub yes : (t u : Bool) → t ≡ u → t ≡ true → u ≡ true
yes t u e f = sym e ∙ f

pub no : (t u : Bool) → t ≡ u → t ≡ false → u ≡ false
no t u e f = sym e ∙ f
