-- The sort of a run of positions by its halves: each is sorted, and then they are merged; where the second only goes on, the run rises as it is.
-- Assumes nothing.
use mathlib.Core.Path.{◌≡◌, refl, sym, ◌∙◌, ap}
use mathlib.Core.Bool.{Bool, true}
use mathlib.Core.List.{List, [], ◌∷◌, ◌++◌, append-nil}
use Prim.Native.Nat.{ℕ, ◌+◌, ◌-◌, ◌*◌, ◌/◌, ◌<◌, ◌≤◌}
use native.Mathlib.Numerals.{add-one}
use native.Mathlib.Omega.{arith}
use lib.ListN.{length, take, drop, get_or, take-append-drop, length-append, length-drop, drop_of_length-le}
use lib.Seq.{length-take-le, take-suc, append_snoc, take_at, drop_at, take_all}
use Rattle.text_scan.proofs.Tests.{and_left, and_right}
use Rattle.text_scan.proofs.Within.{drop_here}
use Rattle.std.specs.Ordering.{is_le}
use Rattle.sort_compare.specs.Order.{order}
use Rattle.sort_places.specs.Sorting.{count, Rearranged, leads, rising, with_place, Sorted}
use Rattle.sort_places.proofs.Counting.{count_append}
use Rattle.sort_places.proofs.Merging.{leads_same}
use Rattle.sort_places.proofs.Placing.{keys_rise}

-- ---- what a sort says
module _ (key : ℕ → List ℕ) (bs cs : List ℕ) (d : Sorted key bs cs) where
  sorted_rises : rising (with_place key) cs ≡ true
  unfolding Sorted
  sorted_rises = d.0

  pub sorted_keys : rising key cs ≡ true
  sorted_keys = keys_rise key cs sorted_rises

  pub sorted_same : Rearranged bs cs
  unfolding Sorted
  sorted_same = d.1

-- the same positions, sorted
pub sorted_from : (key : ℕ → List ℕ) (bs cs ds : List ℕ) → Rearranged bs cs → Sorted key cs ds → Sorted key bs ds
unfolding Sorted
sorted_from key bs cs ds e d = (d.0, λ p. e p ∙ d.1 p)

-- ---- halves of which the second only goes on
module _ (key : ℕ → List ℕ) where
  rising_on : (ms ys : List ℕ) (x : ℕ) → rising key (ms ++ x ∷ []) ≡ true → leads key x ys ≡ true → rising key ys ≡ true → rising key (ms ++ x ∷ ys) ≡ true
  unfolding rising
  rising_on [] ys x e f g = rw (f, g)
  rising_on (m ∷ ms) ys x e f g =
      let a : leads key m (ms ++ x ∷ ys) ≡ true = sym (leads_same key ms [] ys m x) ∙ and_left (leads key m (ms ++ x ∷ [])) (rising key (ms ++ x ∷ [])) e in
      let b : rising key (ms ++ x ∷ ys) ≡ true = rising_on ms ys x (and_right (leads key m (ms ++ x ∷ [])) (rising key (ms ++ x ∷ [])) e) f g in
      rw (a, b)

module _ (key : ℕ → List ℕ) (a : List ℕ) (h : ℕ) (z : 0 < h) (l : h < length a) where
  last_of_half : take h a ≡ take (h - 1) a ++ get_or a (h - 1) 0 ∷ []
  last_of_half =
      let q : h - 1 + 1 ≡ h = omega arith in
      let t : take (h - 1 + 1) a ≡ take (h - 1) a ++ get_or a (h - 1) 0 ∷ [] = rw (add-one (h - 1)) (take-suc a (h - 1) 0 (omega arith)) in
      rw q at t

  seam : take (h - 1) a ++ get_or a (h - 1) 0 ∷ drop h a ≡ a
  seam =
      sym (append_snoc (take (h - 1) a) (get_or a (h - 1) 0) (drop h a)) ∙ ap (λ t. t ++ drop h a) (sym last_of_half) ∙ take-append-drop h a

  abbrev by : ℕ → List ℕ
  by = with_place key

  pub goes_on_sorted : rising by (take h a) ≡ true → rising by (drop h a) ≡ true → (r : Bool) → r ≡ is_le (order (by (get_or a (h - 1) 0)) (by (get_or a h 0))) → r ≡ true → Sorted key a a
  unfolding Sorted
  goes_on_sorted e f r er t =
      let x : ℕ = get_or a (h - 1) 0 in
      let i : rising by (take (h - 1) a ++ x ∷ []) ≡ true = rw last_of_half at e in
      let j : leads by x (drop h a) ≡ true = rw (drop_here a h l) (sym er ∙ t) in
      (ap (rising by) (sym seam) ∙ rising_on by (take (h - 1) a) (drop h a) x i j f, λ p. refl)

-- ---- the first half, copied to the room
module _ (key : ℕ → List ℕ) (a half : List ℕ) (h : ℕ) (l : h < length a) (e : half ≡ take h a) where
  half_length : length half ≡ h
  half_length = ap length e ∙ length-take-le h a (omega arith)

  pub half_fits : length half ≤ length a
  half_fits = omega (arith, half_length)

  pub half_rises : rising (with_place key) (take h a) ≡ true → rising (with_place key) half ≡ true
  half_rises f = rw e f

  pub other_rises : rising (with_place key) (drop h a) ≡ true → rising (with_place key) (drop (length half) a) ≡ true
  other_rises f = rw half_length f

  pub halves_sorted : (b : List ℕ) → Sorted key (half ++ drop (length half) a) b → Sorted key a b
  halves_sorted b f = rw (half_length, e, take-append-drop h a) at f

-- ---- one position or none
pub short_sorted : (key : ℕ → List ℕ) (a : List ℕ) → length a < 2 → Sorted key a a
unfolding Sorted rising
short_sorted key [] h = (refl, λ p. refl)
short_sorted key (b ∷ []) h = (refl, λ p. refl)
short_sorted key (b ∷ c ∷ bs) h = absurd (omega arith)

-- ---- the halves, one after the other
module _ (key : ℕ → List ℕ) (a : List ℕ) (h : ℕ) (l : h ≤ length a) (xs : List ℕ) (d : Sorted key (take h a) xs) (k : length xs ≡ length (take h a)) where
  whole : (p : ℕ → Bool) → count p a ≡ count p (take h a) + count p (drop h a)
  whole p = ap (count p) (sym (take-append-drop h a)) ∙ count_append p (take h a) (drop h a)

  first_length : length xs ≡ h
  first_length = k ∙ length-take-le h a l

  first_whole : length (xs ++ drop h a) ≡ length a
  first_whole = omega (arith, length-append xs (drop h a), length-drop h a, first_length)

  others : take (length (xs ++ drop h a) - h) (drop h (xs ++ drop h a)) ≡ drop h a
  others =
      rw (drop_at xs (drop h a) h first_length)
      (take_all (length (xs ++ drop h a) - h) (drop h a) (omega (arith, first_whole, length-drop h a)))

  module _ (ys : List ℕ) (g : Sorted key (take (length (xs ++ drop h a) - h) (drop h (xs ++ drop h a))) ys) where
    second : Sorted key (drop h a) ys
    second = rw others at g

    joined : take h (xs ++ drop h a) ++ (ys ++ drop (length (xs ++ drop h a) - h) (drop h (xs ++ drop h a))) ≡ xs ++ ys
    joined =
        let n : length (drop h a) ≤ length (xs ++ drop h a) - h = omega (arith, first_whole, length-drop h a) in
        rw (take_at xs (drop h a) h first_length, drop_at xs (drop h a) h first_length, drop_of_length-le (drop h a) n, append-nil ys)

    pub joined_fits : length ys ≡ length (take (length (xs ++ drop h a) - h) (drop h (xs ++ drop h a))) → h < length a → h < length (take h (xs ++ drop h a) ++ (ys ++ drop (length (xs ++ drop h a) - h) (drop h (xs ++ drop h a))))
    joined_fits m n = rw joined (omega (arith, length-append xs ys, first_length, m ∙ ap length others, length-drop h a))

    pub first_rises : rising (with_place key) (take h (take h (xs ++ drop h a) ++ (ys ++ drop (length (xs ++ drop h a) - h) (drop h (xs ++ drop h a))))) ≡ true
    first_rises = rw (joined, take_at xs ys h first_length) (sorted_rises key (take h a) xs d)

    pub second_rises : rising (with_place key) (drop h (take h (xs ++ drop h a) ++ (ys ++ drop (length (xs ++ drop h a) - h) (drop h (xs ++ drop h a))))) ≡ true
    second_rises = rw (joined, drop_at xs ys h first_length) (sorted_rises key (drop h a) ys second)

    pub whole_sorted : (b : List ℕ) → Sorted key (take h (xs ++ drop h a) ++ (ys ++ drop (length (xs ++ drop h a) - h) (drop h (xs ++ drop h a)))) b → Sorted key a b
    whole_sorted b e =
        sorted_from key a (xs ++ ys) b
        (λ p. omega (arith, whole p, sorted_same key (take h a) xs d p, sorted_same key (drop h a) ys second p, count_append p xs ys)) (rw joined at e)

-- ---- how many positions each half has, and the room
pub half_least : (n : ℕ) → n / 2 ≤ n
half_least n = omega arith

pub half_some : (n : ℕ) → 2 ≤ n → 0 < n / 2
half_some n h = omega arith

pub half_less : (n : ℕ) → 2 ≤ n → n / 2 < n
half_less n h = omega arith

module _ (a : List ℕ) where
  half_of : length (take (length a / 2) a) ≡ length a / 2
  half_of = length-take-le (length a / 2) a (half_least (length a))

  pub first_part : length a / 2 ≡ length (take (length a / 2) a)
  first_part = sym half_of

  pub first_falls : (t : ℕ) → length a ≡ t → 2 ≤ length a → length (take (length a / 2) a) < t
  first_falls t e h = omega (arith, half_of)

  pub first_room : (room : List ℕ) → length a ≤ 2 * length room → length (take (length a / 2) a) ≤ 2 * length room
  first_room room h = omega (arith, half_of)
