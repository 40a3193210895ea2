-- The merging of two runs of positions, each rising: the first of one run goes over where it is not after the first of the other.
-- Assumes nothing.
use mathlib.Core.Path.{◌≡◌, refl, sym, ◌∙◌, ap}
use mathlib.Core.Bool.{Bool, true, false}
use mathlib.Core.List.{List, [], ◌∷◌, ◌++◌, append-nil}
use Prim.Native.Nat.{ℕ, ◌+◌, ◌<◌, ◌≤◌}
use native.Mathlib.Numerals.{add-one}
use native.Mathlib.Omega.{arith}
use lib.ListN.{length, take, drop, get_or, set, length-set, drop_of_length-le, take-append-drop}
use lib.Seq.{append_snoc, take-suc-set, drop-set-lt}
use Rattle.text_scan.proofs.Tests.{and_left, and_right}
use Rattle.text_scan.proofs.Within.{drop_here}
use Rattle.std.specs.Ordering.{is_le}
use Rattle.sort_compare.specs.Order.{order}
use Rattle.sort_compare.proofs.Ordering.{in_order_turned}
use Rattle.sort_places.specs.Sorting.{count, Rearranged, leads, rising, with_place, Sorted}
use Rattle.sort_places.proofs.Counting.{count_append}

-- ---- over lists: those that are merged, and what is left of the two runs
unfoldable pub Merges : (ℕ → List ℕ) → List ℕ → List ℕ → List ℕ → List ℕ → Type 0
Merges key all ms xs ys = (rising key (ms ++ xs) ≡ true) × (rising key (ms ++ ys) ≡ true) × Rearranged all (ms ++ xs ++ ys)

module _ (key : ℕ → List ℕ) where
  pub leads_same : (ms xs ys : List ℕ) (m x : ℕ) → leads key m (ms ++ x ∷ xs) ≡ leads key m (ms ++ x ∷ ys)
  leads_same [] xs ys m x = refl
  leads_same (n ∷ ms) xs ys m x = refl

  rising_next : (ms xs ys : List ℕ) (x : ℕ) → rising key (ms ++ x ∷ xs) ≡ true → rising key (ms ++ ys) ≡ true → leads key x ys ≡ true → rising key (ms ++ x ∷ ys) ≡ true
  unfolding rising
  rising_next [] xs ys x e f g = rw (g, f)
  rising_next (m ∷ ms) xs ys x e f g =
      let a : leads key m (ms ++ x ∷ ys) ≡ true = sym (leads_same ms xs ys m x) ∙ and_left (leads key m (ms ++ x ∷ xs)) (rising key (ms ++ x ∷ xs)) e in
      let b : rising key (ms ++ x ∷ ys) ≡ true = rising_next ms xs ys x (and_right (leads key m (ms ++ x ∷ xs)) (rising key (ms ++ x ∷ xs)) e) (and_right (leads key m (ms ++ ys)) (rising key (ms ++ ys)) f) g in
      rw (a, b)

  module _ (all ms : List ℕ) where
    swaps : (xs ys : List ℕ) → Merges key all ms xs ys → Merges key all ms ys xs
    unfolding Merges
    swaps xs ys l =
        (l.1, l.0, λ p. omega (arith, l.2 p, count_append p (ms ++ xs) ys, count_append p ms xs, count_append p (ms ++ ys) xs, count_append p ms ys))

    -- the first of a run goes over, where it is not after the first of the other
    goes_over : (x : ℕ) (xs ys : List ℕ) → Merges key all ms (x ∷ xs) ys → leads key x ys ≡ true → Merges key all (ms ++ x ∷ []) xs ys
    unfolding Merges
    goes_over x xs ys l g = (
      rw (append_snoc ms x xs) l.0,
      rw (append_snoc ms x ys) (rising_next ms xs ys x l.0 l.1 g),
      λ p. rw (append_snoc ms x xs) (l.2 p),
    )

merges_end : (key : ℕ → List ℕ) (all ms ys zs : List ℕ) → Merges (with_place key) all ms [] ys → ms ++ ys ≡ zs → Sorted key all zs
unfolding Merges Sorted
merges_end key all ms ys zs l e =
    (rw (← e) l.1, λ p. rw (← e) (l.2 p ∙ ap (λ r. count p (r ++ ys)) (append-nil ms)))

-- ---- over the runs of the code: the first i of `left` and those of a before the place j are merged into the first k of a
unfoldable pub Merging : (ℕ → List ℕ) → List ℕ → List ℕ → ℕ → ℕ → ℕ → List ℕ → Type 0
Merging key left all i j k a = Merges key all (take k a) (drop i left) (drop j a)

pub merge_starts : (key : ℕ → List ℕ) (left a : List ℕ) → rising key left ≡ true → rising key (drop (length left) a) ≡ true → Merging key left (left ++ drop (length left) a) 0 (length left) 0 a
unfolding Merging Merges
merge_starts key left a e f = (e, f, λ p. refl)

pub merge_ends : (key : ℕ → List ℕ) (left all : List ℕ) (i j k : ℕ) (a : List ℕ) → Merging (with_place key) left all i j k a → length left ≤ i → i ≤ length left → k + length left ≡ i + j → Sorted key all a
unfolding Merging
merge_ends key left all i j k a l h g e =
    let q : k ≡ j = omega arith in
    let m : Merges (with_place key) all (take k a) [] (drop j a) = rw (drop_of_length-le left h) at l in
    merges_end key all (take k a) (drop j a) a m (rw q (take-append-drop j a))

module _ (key : ℕ → List ℕ) (left all : List ℕ) (i j k : ℕ) (a : List ℕ) (l : Merging key left all i j k a) (h : i < length left) (e : k + length left ≡ i + j) where
  left_over : (x : ℕ) → x ≡ get_or left i 0 → leads key x (drop j a) ≡ true → k < length a → Merging key left all (i + 1) j (k + 1) (set a k x)
  unfolding Merging
  left_over x ex g n =
      let q : k < j = omega arith in
      let m : Merges key all (take k a) (x ∷ drop (i + 1) left) (drop j a) = rw ex (rw (drop_here left i h) at l) in
      rw (add-one k, take-suc-set a k x n, drop-set-lt j a k x q) (goes_over key all (take k a) x (drop (i + 1) left) (drop j a) m g)

  pub merge_last : (m : ℕ) → length a ≡ m → j ≤ m → length a ≤ j → Merging key left all (i + 1) j (k + 1) (set a k (get_or left i 0))
  merge_last m z n g = left_over (get_or left i 0) refl (rw (drop_of_length-le a g)) (omega arith)

  module _ (g : j < length a) (r : Bool) (er : r ≡ is_le (order (key (get_or left i 0)) (key (get_or a j 0)))) where
    pub merge_left : r ≡ true → Merging key left all (i + 1) j (k + 1) (set a k (get_or left i 0))
    merge_left f = left_over (get_or left i 0) refl (rw (drop_here a j g) (sym er ∙ f)) (omega arith)

    pub merge_right : r ≡ false → Merging key left all i (j + 1) (k + 1) (set a k (get_or a j 0))
    unfolding Merging
    merge_right f =
        let y : ℕ = get_or a j 0 in
        let n : k < length a = omega arith in
        let q : k < j + 1 = omega arith in
        let m : Merges key all (take k a) (y ∷ drop (j + 1) a) (drop i left) = swaps key all (take k a) (drop i left) (y ∷ drop (j + 1) a) (rw (drop_here a j g) at l) in
        let v : leads key y (drop i left) ≡ true = rw (drop_here left i h) (in_order_turned (key (get_or left i 0)) (key y) (sym er ∙ f)) in
        rw (add-one k, take-suc-set a k y n, drop-set-lt (j + 1) a k y q)
        (swaps key all (take k a ++ y ∷ []) (drop (j + 1) a) (drop i left) (goes_over key all (take k a) y (drop (j + 1) a) (drop i left) m v))

-- as many places as before
pub length_kept : (a : List ℕ) (k x m : ℕ) → length a ≡ m → length (set a k x) ≡ m
length_kept a k x m e = length-set a k x ∙ e
