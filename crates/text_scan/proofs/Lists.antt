-- The loops over one or two byte strings: each invariant says that the answer from the start is the answer from here,
-- and each law is one branch of such a loop, for any property of bytes.
-- Assumes nothing.
use mathlib.Core.Path.{◌≡◌, refl, sym, ◌∙◌, ap}
use mathlib.Core.Bool.{Bool, true, false, ◌&&◌}
use mathlib.Core.List.{List, [], ◌∷◌, map}
use Prim.Native.Nat.{ℕ, zero, suc, ◌+◌, ◌<◌, ◌≤◌}
use native.Mathlib.Omega.{arith}
use borrow.Author.Tests.{eq-eqb, ne_eqb, eqb-true}
use Rattle.std.proofs.lemmas.Bool.{eqb-false}
use lib.Dec.{eqb}
use lib.ListN.{length, take, drop, get_or, drop_of_length-le, length-drop, length-map}
use Rattle.std.specs.List.{list_all, starts_with, zip}
use lib.Pointwise.{pointwise}
use Rattle.text_scan.specs.Choice.{pick, ◌and◌}
use Rattle.text_scan.specs.Lists.{every, pairs, begins, stands, run_end, run_from}
use Rattle.text_scan.proofs.Tests.{never, and_right, and_left}
use Rattle.text_scan.proofs.Within.{drop_here}

-- ---- all elements of a list
abbrev pub Every : (ℕ → Bool) → List ℕ → ℕ → Type 0
Every p s i = every p s ≡ every p (drop i s)

module _ (p : ℕ → Bool) (s : List ℕ) (i : ℕ) (l : Every p s i) where
  pub every_goes : (t : Bool) → i < length s → t ≡ p (get_or s i 0) → t ≡ true → Every p s (i + 1)
  unfolding every
  every_goes t h e f = l ∙ rw (drop_here s i h, ← e, f)

  pub every_stops : (t : Bool) → i < length s → t ≡ p (get_or s i 0) → t ≡ false → false ≡ every p s
  unfolding every
  every_stops t h e f = sym (l ∙ rw (drop_here s i h, ← e, f))

  pub every_ends : length s ≤ i → true ≡ every p s
  unfolding every
  every_ends h = sym (l ∙ rw (drop_of_length-le s h))

-- the same in the library's words
join : (t u v : Bool) → u ≡ v → (t && u) ≡ t and v
join true u v e = e
join false u v e = refl

every_of_all : (p : ℕ → Bool) (s : List ℕ) → list_all p s ≡ every p s
unfolding every
every_of_all p [] = refl
every_of_all p (x ∷ xs) = join (p x) _ _ (every_of_all p xs)

pub every_told : (p : ℕ → Bool) (s : List ℕ) (t : Bool) → t ≡ list_all p s → t ≡ every p s
every_told p s t e = e ∙ every_of_all p s

-- what holds of every element holds at each position, and of each part
pub every_at : (p : ℕ → Bool) (s : List ℕ) (i : ℕ) → every p s ≡ true → i < length s → p (get_or s i 0) ≡ true
unfolding every
every_at p [] i e h = absurd (omega arith)
every_at p (x ∷ xs) zero e h = and_left (p x) (every p xs) e
every_at p (x ∷ xs) (suc i) e h = every_at p xs i (and_right (p x) (every p xs) e) (omega arith)

pub every_drop : (p : ℕ → Bool) (i : ℕ) (s : List ℕ) → every p s ≡ true → every p (drop i s) ≡ true
unfolding every
every_drop p zero s e = e
every_drop p (suc i) [] e = e
every_drop p (suc i) (x ∷ xs) e = every_drop p i xs (and_right (p x) (every p xs) e)

pub every_take : (p : ℕ → Bool) (i : ℕ) (s : List ℕ) → every p s ≡ true → every p (take i s) ≡ true
unfolding every
every_take p zero s e = refl
every_take p (suc i) [] e = e
every_take p (suc i) (x ∷ xs) e =
    rw (and_left (p x) (every p xs) e) (every_take p i xs (and_right (p x) (every p xs) e))

-- ---- two lists, element by element
abbrev pub Pairs : (ℕ → ℕ → Bool) → List ℕ → List ℕ → ℕ → Type 0
Pairs f a b i = pairs f a b ≡ pairs f (drop i a) (drop i b)

-- lists of two lengths
pub pairs_other : (f : ℕ → ℕ → Bool) (a b : List ℕ) → (length a ≡ length b → ⊥) → false ≡ pairs f a b
unfolding pairs
pairs_other f [] [] h = absurd (h refl)
pairs_other f [] (y ∷ ys) h = refl
pairs_other f (x ∷ xs) [] h = refl
pairs_other f (x ∷ xs) (y ∷ ys) h = next (f x y) (pairs_other f xs ys (λ e. h (ap suc e)))
  where
    next : (t : Bool) → false ≡ pairs f xs ys → false ≡ t and pairs f xs ys
    next true e = e
    next false e = refl

-- the same in the library's words
pub pairs_is : (f : ℕ → ℕ → Bool) (a b : List ℕ) → pointwise f a b ≡ pairs f a b
unfolding pairs
pairs_is f [] [] = refl
pairs_is f [] (y ∷ ys) = refl
pairs_is f (x ∷ xs) [] = refl
pairs_is f (x ∷ xs) (y ∷ ys) = join (f x y) _ _ (pairs_is f xs ys)

pub pairs_zip : (f : ℕ → ℕ → Bool) (a b : List ℕ) → length a ≡ length b → list_all (λ p. f p.0 p.1) (zip a b) ≡ pairs f a b
unfolding pairs
pairs_zip f [] [] h = refl
pairs_zip f [] (y ∷ ys) h = absurd (omega arith)
pairs_zip f (x ∷ xs) [] h = absurd (omega arith)
pairs_zip f (x ∷ xs) (y ∷ ys) h = join (f x y) _ _ (pairs_zip f xs ys (omega arith))

module _ (f : ℕ → ℕ → Bool) (a b : List ℕ) where
  module _ (i : ℕ) (l : Pairs f a b i) (n : length a ≡ length b) where
    pub pairs_goes : (t : Bool) → i < length a → t ≡ f (get_or a i 0) (get_or b i 0) → t ≡ true → Pairs f a b (i + 1)
    unfolding pairs
    pairs_goes t h e g = l ∙ rw (drop_here a i h, drop_here b i (omega arith), ← e, g)

    pub pairs_stops : (t : Bool) → i < length a → t ≡ f (get_or a i 0) (get_or b i 0) → t ≡ false → false ≡ pairs f a b
    unfolding pairs
    pairs_stops t h e g = sym (l ∙ rw (drop_here a i h, drop_here b i (omega arith), ← e, g))

    pub pairs_ends : length a ≤ i → true ≡ pairs f a b
    unfolding pairs
    pairs_ends h = sym (l ∙ (let g : length b ≤ i = omega arith in rw (drop_of_length-le a h, drop_of_length-le b g)))

-- the same where the test compares what k makes of the elements
module _ (k : ℕ → ℕ) (a b : List ℕ) (i : ℕ) (l : Pairs (λ x y. eqb (k x) (k y)) a b i) (n : length a ≡ length b) (h : i < length a) where
  pub keys_goes : (x y : ℕ) → x ≡ y → x ≡ k (get_or a i 0) → y ≡ k (get_or b i 0) → Pairs (λ x y. eqb (k x) (k y)) a b (i + 1)
  keys_goes x y g e f = pairs_goes _ a b i l n true h (sym (eq-eqb _ _ (sym e ∙ g ∙ f))) refl

  pub keys_stops : (x y : ℕ) → (x ≡ y → ⊥) → x ≡ k (get_or a i 0) → y ≡ k (get_or b i 0) → false ≡ pairs (λ x y. eqb (k x) (k y)) a b
  keys_stops x y g e f = pairs_stops _ a b i l n false h (sym (ne_eqb _ _ (λ q. g (e ∙ q ∙ sym f)))) refl

-- ---- a text at a position
-- what is left to compare, j elements of t on and at position i of s
abbrev pub Left : List ℕ → List ℕ → ℕ → ℕ → ℕ → Type 0
Left t s at j i = stands t s at ≡ begins (drop j t) (drop i s)

module _ (t s : List ℕ) (at j i : ℕ) (l : Left t s at j i) where
  pub text_short : j < length t → length s ≤ i → false ≡ stands t s at
  unfolding begins
  text_short h g = sym (l ∙ rw (drop_here t j h, drop_of_length-le s g))

  pub text_other : j < length t → i < length s → (get_or s i 0 ≡ get_or t j 0 → ⊥) → false ≡ stands t s at
  unfolding begins
  text_other h g e = sym (l ∙ rw (drop_here t j h, drop_here s i g, ne_eqb (get_or s i 0) (get_or t j 0) e))

  pub text_next : j < length t → i < length s → get_or s i 0 ≡ get_or t j 0 → Left t s at (j + 1) (i + 1)
  unfolding begins
  text_next h g e = l ∙ rw (drop_here t j h, drop_here s i g, eq-eqb (get_or s i 0) (get_or t j 0) e)

  pub text_whole : length t ≤ j → true ≡ stands t s at
  unfolding begins
  text_whole h = sym (l ∙ rw (drop_of_length-le t h))

-- the same in the library's words
swap : (a b : ℕ) → eqb a b ≡ eqb b a
swap a b = go (eqb b a) refl
  where
    go : (t : Bool) → eqb b a ≡ t → eqb a b ≡ t
    go true q = eq-eqb a b (sym (eqb-true b a q))
    go false q = ne_eqb a b (λ e. eqb-false b a q (sym e))

pub front : (t xs : List ℕ) → starts_with eqb xs t ≡ begins t xs
unfolding begins
front [] xs = refl
front (t ∷ ts) [] = refl
front (t ∷ ts) (x ∷ xs) = rw (swap t x) (join (eqb x t) _ _ (front ts xs))

-- the same where k reads the bytes of s
got : (k : ℕ → ℕ) (s : List ℕ) (i : ℕ) → i < length s → get_or (map k s) i 0 ≡ k (get_or s i 0)
got k [] i h = absurd (omega arith)
got k (x ∷ xs) zero h = refl
got k (x ∷ xs) (suc i) h = got k xs i (omega arith)

module _ (k : ℕ → ℕ) (t s : List ℕ) (at j i : ℕ) (l : Left t (map k s) at j i) where
  pub read_short : j < length t → length s ≤ i → false ≡ stands t (map k s) at
  read_short h g = text_short t (map k s) at j i l h (omega (arith, length-map s k))

  pub read_whole : length t ≤ j → true ≡ stands t (map k s) at
  read_whole = text_whole t (map k s) at j i l

  module _ (h : j < length t) (g : i < length s) (b : ℕ) (e : b ≡ k (get_or s i 0)) where
    pub read_other : (b ≡ get_or t j 0 → ⊥) → false ≡ stands t (map k s) at
    read_other f = text_other t (map k s) at j i l h (omega (arith, length-map s k)) (λ a. f (e ∙ sym (got k s i g) ∙ a))

    pub read_next : b ≡ get_or t j 0 → Left t (map k s) at (j + 1) (i + 1)
    read_next f = text_next t (map k s) at j i l h (omega (arith, length-map s k)) (got k s i g ∙ sym e ∙ f)

-- bytes that are read as they are
pub map_same : (s : List ℕ) → map (λ b. b) s ≡ s
map_same [] = refl
map_same (x ∷ xs) = ap (λ (l : List ℕ). x ∷ l) (map_same xs)

begins_fits : (t xs : List ℕ) → begins t xs ≡ true → length t ≤ length xs
unfolding begins
begins_fits [] xs e = omega arith
begins_fits (t ∷ ts) [] e = never (sym e)
begins_fits (t ∷ ts) (x ∷ xs) e = omega (arith, begins_fits ts xs (and_right (eqb x t) (begins ts xs) e))

-- a text that stands at a position ends within
pub text_fits : (t s : List ℕ) (i : ℕ) → 0 < length t → stands t s i ≡ true → i + length t ≤ length s
text_fits t s i h e = omega (arith, begins_fits t (drop i s) e, length-drop i s)

-- ---- a run
abbrev pub Run : (ℕ → Bool) → List ℕ → ℕ → ℕ → Type 0
Run p s at i = run_from p s at ≡ run_from p s i

module _ (p : ℕ → Bool) (s : List ℕ) (at i : ℕ) (l : Run p s at i) where
  pub run_goes : (t : Bool) → i < length s → t ≡ p (get_or s i 0) → t ≡ true → Run p s at (i + 1)
  unfolding run_end
  run_goes t h e f = l ∙ rw (drop_here s i h, ← e, f)

  pub run_stops : (t : Bool) → i < length s → t ≡ p (get_or s i 0) → t ≡ false → i ≡ run_from p s at
  unfolding run_end
  run_stops t h e f = sym (l ∙ rw (drop_here s i h, ← e, f))

  pub run_ends : length s ≤ i → i ≡ run_from p s at
  unfolding run_end
  run_ends h = sym (l ∙ rw (drop_of_length-le s h))

-- a run ends behind its start, and within where it starts within
run_ahead : (p : ℕ → Bool) (i : ℕ) (xs : List ℕ) → (i ≤ run_end p i xs) × (run_end p i xs ≤ i + length xs)
unfolding run_end
run_ahead p i [] = (omega arith, omega arith)
run_ahead p i (x ∷ xs) = go (p x) (run_ahead p (i + 1) xs)
  where
    go : (t : Bool) → (i + 1 ≤ run_end p (i + 1) xs) × (run_end p (i + 1) xs ≤ i + 1 + length xs) → (i ≤ pick t (run_end p (i + 1) xs) i) × (pick t (run_end p (i + 1) xs) i ≤ i + length (x ∷ xs))
    go true h = (omega arith, omega arith)
    go false h = (omega arith, omega arith)

pub run_least : (p : ℕ → Bool) (s : List ℕ) (i : ℕ) → i ≤ run_from p s i
run_least p s i = (run_ahead p i (drop i s)).0

pub run_most : (p : ℕ → Bool) (s : List ℕ) (i : ℕ) → i ≤ length s → run_from p s i ≤ length s
run_most p s i h = omega (arith, (run_ahead p i (drop i s)).1, length-drop i s)
