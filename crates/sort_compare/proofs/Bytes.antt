-- The bytes of the name at a position, as they are compared: its first byte, and those with which it goes on.
-- Assumes nothing.
use mathlib.Core.Path.{◌≡◌, refl, sym, ◌∙◌, ap}
use mathlib.Core.Bool.{Bool, true, false}
use mathlib.Core.List.{List, [], ◌∷◌}
use Prim.Native.Nat.{ℕ, zero, suc, ◌+◌, ◌-◌, ◌<◌, ◌≤◌, ◌^◌}
use native.Mathlib.Omega.{arith}
use lib.ListN.{length, get_or, take, drop, get_or-eq_default, drop_of_length-le}
use mir.Val.{Fits}
use mir.Syntax.{w64}
use Rattle.text_scan.specs.Choice.{pick}
use Rattle.text_scan.specs.Lists.{run_end, run_from}
use Rattle.text_scan.proofs.Tests.{never}
use Rattle.text_scan.proofs.Within.{inside, holds_there, drop_here}
use Rattle.text_scan.proofs.Lists.{run_least}
use Rattle.xml_names.specs.Names.{name_at, is_name_start, is_name_char, name_end}
use Rattle.std.specs.declared.cmp.Ordering.TheVariants.{Equal}
use Rattle.std.specs.declared.cmp.Ordering.{Ordering}
use Rattle.std.specs.Ordering.{nat_cmp}
use Rattle.sort_compare.specs.Order.{order}
use Rattle.sort_compare.specs.Units.{byte_in}
use Rattle.sort_compare.proofs.Ordering.{begun, begun_same, begun_goes, begun_less, begun_more, told}

-- ---- the byte, by the tests of the code
pub byte_past : (p : ℕ → Bool) → p 0 ≡ false → (s : List ℕ) (i : ℕ) → length s ≤ i → 0 ≡ byte_in p s i
byte_past p z s i h = sym (rw (get_or-eq_default s 0 h, z))

module _ (p : ℕ → Bool) (s : List ℕ) (i : ℕ) where
  pub byte_in_lem : (t : Bool) → t ≡ p (get_or s i 0) → t ≡ true → get_or s i 0 ≡ byte_in p s i
  byte_in_lem t e f = sym (rw (← e, f))

  pub byte_out : (t : Bool) → t ≡ p (get_or s i 0) → t ≡ false → 0 ≡ byte_in p s i
  byte_out t e f = sym (rw (← e, f))

  -- it is the byte that stands there or less
  pub byte_least : (x : ℕ) → x ≡ byte_in p s i → x ≤ get_or s i 0
  byte_least x e = go (p (get_or s i 0)) e
    where
      go : (t : Bool) → x ≡ pick t (get_or s i 0) 0 → x ≤ get_or s i 0
      go true f = omega arith
      go false f = omega arith

-- ---- what is left of a name from position i on
abbrev pub rest : List ℕ → ℕ → List ℕ
rest s i = take (run_from is_name_char s i - i) (drop i s)

rest_one : (s : List ℕ) (i : ℕ) → is_name_char (get_or s i 0) ≡ true → rest s i ≡ get_or s i 0 ∷ rest s (i + 1)
unfolding run_end
rest_one s i t =
    let h : i < length s = holds_there is_name_char refl s i t in
    let m : i + 1 ≤ run_from is_name_char s (i + 1) = run_least is_name_char s (i + 1) in
    let n : run_from is_name_char s (i + 1) - i ≡ suc (run_from is_name_char s (i + 1) - (i + 1)) = omega arith in
    rw (drop_here s i h, t, n)

rest_none : (s : List ℕ) (i : ℕ) → is_name_char (get_or s i 0) ≡ false → rest s i ≡ []
unfolding run_end
rest_none s i t =
    let n : i - i ≡ 0 = omega arith in
    inside (length s) i (λ h. rw (drop_here s i h, t, n)) (λ h. rw (drop_of_length-le s h, n))

begun_one : (b : ℕ) (l : List ℕ) → is_name_char b ≡ true → b ∷ l ≡ begun b l
begun_one zero l t = never (sym t)
begun_one (suc b) l t = refl

pub rest_begun : (s : List ℕ) (i x : ℕ) → x ≡ byte_in is_name_char s i → rest s i ≡ begun x (rest s (i + 1))
rest_begun s i x e = go (is_name_char (get_or s i 0)) refl e
  where
    go : (t : Bool) → is_name_char (get_or s i 0) ≡ t → x ≡ pick t (get_or s i 0) 0 → rest s i ≡ begun x (rest s (i + 1))
    go true f g = rest_one s i f ∙ begun_one (get_or s i 0) (rest s (i + 1)) f ∙ ap (λ y. begun y (rest s (i + 1))) (sym g)
    go false f g = rest_none s i f ∙ ap (λ y. begun y (rest s (i + 1))) (sym g)

-- what a name begins with, it can go on with
start_char : (b : ℕ) → is_name_start b ≡ true → is_name_char b ≡ true
start_char b e = rw e

pub name_begun : (s : List ℕ) (i x : ℕ) → x ≡ byte_in is_name_start s i → name_at s i ≡ begun x (rest s (i + 1))
unfolding name_end
name_begun s i x e = go (is_name_start (get_or s i 0)) refl e
  where
    n : i - i ≡ 0
    n = omega arith

    go : (t : Bool) → is_name_start (get_or s i 0) ≡ t → x ≡ pick t (get_or s i 0) 0 → take (pick t (run_from is_name_char s i) i - i) (drop i s) ≡ begun x (rest s (i + 1))
    go true f g = rest_one s i (start_char (get_or s i 0) f) ∙ begun_one (get_or s i 0) (rest s (i + 1)) (start_char (get_or s i 0) f) ∙ ap (λ y. begun y (rest s (i + 1))) (sym g)
    go false f g = rw n (ap (λ y. begun y (rest s (i + 1))) (sym g))

-- ---- the loop: the names compare as what is left of them, which goes on with the bytes x and y
unfoldable pub Compares : List ℕ → ℕ → ℕ → ℕ → ℕ → ℕ → ℕ → Type 0
Compares s a b i j x y = order (name_at s a) (name_at s b) ≡ order (begun x (rest s (i + 1))) (begun y (rest s (j + 1)))

pub compare_starts : (s : List ℕ) (a b x y : ℕ) → x ≡ byte_in is_name_start s a → y ≡ byte_in is_name_start s b → Compares s a b a b x y
unfolding Compares
compare_starts s a b x y e f = rw (name_begun s a x e, name_begun s b y f)

module _ (s : List ℕ) (a b i j x y : ℕ) (l : Compares s a b i j x y) where
  pub compare_same : x ≡ y → x ≡ 0 → Equal ≡ order (name_at s a) (name_at s b)
  unfolding Compares
  compare_same e z = sym (l ∙ begun_same x y (rest s (i + 1)) (rest s (j + 1)) e z)

  pub compare_goes : x ≡ y → (x ≡ 0 → ⊥) → (x' y' : ℕ) → x' ≡ byte_in is_name_char s (i + 1) → y' ≡ byte_in is_name_char s (j + 1) → Compares s a b (i + 1) (j + 1) x' y'
  unfolding Compares
  compare_goes e z x' y' f g =
      l ∙ begun_goes x y (rest s (i + 1)) (rest s (j + 1)) e z ∙ rw (rest_begun s (i + 1) x' f, rest_begun s (j + 1) y' g)

  pub compare_told : (x ≡ y → ⊥) → (r : Ordering) → r ≡ nat_cmp x y → r ≡ order (name_at s a) (name_at s b)
  unfolding Compares
  compare_told z r e =
      told x y r (order (name_at s a) (name_at s b)) e (λ h. sym (l ∙ begun_less x y (rest s (i + 1)) (rest s (j + 1)) h)) (λ h. absurd (z h)) (λ h. sym (l ∙ begun_more x y (rest s (i + 1)) (rest s (j + 1)) h))

-- a byte other than 0 leaves room for the next position
module _ (s : List ℕ) (i x : ℕ) (l : x ≤ get_or s i 0) (z : x ≡ 0 → ⊥) where
  byte_there : i < length s
  byte_there = inside (length s) i (λ h. h) (λ h. absurd (z (omega (arith, get_or-eq_default s 0 h))))

  pub byte_next : length s < 2 ^ 64 → Fits w64 (i + 1)
  byte_next n = omega (arith, byte_there)

  pub byte_falls : length s - (i + 1) < length s - i
  byte_falls = omega (arith, byte_there)

pub byte_next_too : (s : List ℕ) (j x y : ℕ) → y ≤ get_or s j 0 → x ≡ y → (x ≡ 0 → ⊥) → length s < 2 ^ 64 → Fits w64 (j + 1)
byte_next_too s j x y l e z = byte_next s j y l (λ f. z (e ∙ f))
