-- The run that is filled: the number of the places is written in front of them, then the part that they fill is sorted. There is one such run, and it is an
-- index: sorting keeps which keys the places have.
-- Assumes nothing.
use mathlib.Core.Path.{◌≡◌, refl, sym, ◌∙◌, ap}
use mathlib.Core.Bool.{Bool}
use mathlib.Core.List.{List, [], ◌∷◌, ◌++◌, append-nil}
use Prim.Native.Nat.{ℕ, ◌+◌, ◌-◌, ◌<◌, ◌≤◌}
use native.Mathlib.Omega.{arith}
use lib.Dec.{ltb}
use lib.ListN.{length, take, drop, set, length-append, length-drop, drop_of_length-le}
use lib.Seq.{length-take-le, take_at, drop_at, take_all, drop-drop}
use Rattle.text_scan.specs.Lists.{some}
use Rattle.table_lines.specs.Lines.{Row}
use Rattle.sort_compare.specs.declared.By.{By}
use Rattle.sort_compare.specs.Keys.{key_at}
use Rattle.sort_places.specs.Sorting.{Rearranged, Sorted}
use Rattle.sort_places.proofs.Counting.{some_count}
use Rattle.sort_places.proofs.Placing.{one_sort}
use Rattle.sort_places.proofs.Sorting.{sorted_keys, sorted_same}
use Rattle.table_index.specs.declared.Lookup.{Lookup}
use Rattle.table_index.specs.Indexed.{by_of, keeps_row, is_key_of, places_at, Collected, Indexed, IndexLeft, Serves, Room}
use Rattle.table_index.proofs.Collecting.{collected}

-- ---- one has a property where those that have it are not none, in whatever order they stand
some_rearranged : (p : ℕ → Bool) (bs cs : List ℕ) → Rearranged bs cs → some p bs ≡ some p cs
some_rearranged p bs cs f = some_count p bs ∙ ap (ltb 0) (f p) ∙ sym (some_count p cs)

-- so places stay those of the rows that are kept when they are sorted
collected_sorted : (q : Lookup) (keeps : Row → Bool) (s : List ℕ) (at count : ℕ) (bs cs : List ℕ) → Collected q keeps s at count bs → Sorted (key_at (by_of q) s) bs cs → Collected q keeps s at count cs
collected_sorted q keeps s at count bs cs l d =
    record { same = λ k. l.same k ∙ some_rearranged (is_key_of q s k) bs cs (sorted_same (key_at (by_of q) s) bs cs d) }

pub arranged_by : (q : Lookup) (s : List ℕ) (by : By) → by ≡ by_of q → (bs cs : List ℕ) → Sorted (key_at by s) bs cs → Sorted (key_at (by_of q) s) bs cs
arranged_by q s by e bs cs d = rw (← e) d

-- ---- the run x with the numbers ys behind its first, where then n is written; the run w with the numbers zs in the part of n behind its first
abbrev counted : List ℕ → List ℕ → ℕ → List ℕ
counted x ys n = set (take 1 x ++ (ys ++ drop (length x - 1) (drop 1 x))) 0 n

abbrev arranged : List ℕ → List ℕ → ℕ → List ℕ
arranged w zs n = take 1 w ++ (zs ++ drop (1 + n - 1) (drop 1 w))

counted_is : (x ys : List ℕ) (n : ℕ) → 0 < length x → counted x ys n ≡ n ∷ ys
counted_is [] ys n h = absurd (omega arith)
counted_is (y ∷ x) ys n h =
    let f : length x ≤ length (y ∷ x) - 1 = omega arith in
    rw (drop_of_length-le x f, append-nil ys)

one_less : (n : ℕ) → 1 + n - 1 ≡ n
one_less n = omega arith

module _ (s : List ℕ) (count : ℕ) (x : List ℕ) (m : Room s count x) (ys : List ℕ) (k : length ys ≡ length (take (length x - 1) (drop 1 x))) (n : ℕ) (h : n ≤ count) where
  behind : length ys ≡ length x - 1
  behind = k ∙ length-take-le (length x - 1) (drop 1 x) (omega (arith, length-drop 1 x))

  here : counted x ys n ≡ n ∷ ys
  here = counted_is x ys n (omega (arith, m.long))

  pub part_fits : 1 + n ≤ length (counted x ys n)
  part_fits = rw here (omega (arith, behind, m.long))

  module _ (zs : List ℕ) (j : length zs ≡ length (take (1 + n - 1) (drop 1 (counted x ys n)))) where
    places : length zs ≡ n
    places = (rw (here, one_less n) at j) ∙ length-take-le n ys (omega (arith, behind, m.long))

    ends : arranged (counted x ys n) zs n ≡ n ∷ zs ++ drop n ys
    ends = rw (here, one_less n)

    pub run_length : length (arranged (counted x ys n) zs n) ≡ length x
    run_length = rw ends (omega (arith, length-append zs (drop n ys), length-drop n ys, places, behind, m.long))

    pub filled : (q : Lookup) (keeps : Row → Bool) (at : ℕ) → n ≡ length (places_at q keeps s at count) → ys ≡ places_at q keeps s at count ++ drop n (take (length x - 1) (drop 1 x)) → Sorted (key_at (by_of q) s) (take (1 + n - 1) (drop 1 (counted x ys n))) zs → IndexLeft q keeps s at count x (arranged (counted x ys n) zs n)
    filled q keeps at e f d =
        let t : take n ys ≡ places_at q keeps s at count = rw f (take_at (places_at q keeps s at count) _ n (sym e)) in
        let u : drop n ys ≡ drop (1 + n) x = rw f (drop_at (places_at q keeps s at count) _ n (sym e)) ∙ ap (drop n) (take_all (length x - 1) (drop 1 x) (omega (arith, length-drop 1 x))) ∙ drop-drop n 1 x in
        record {
          places = zs;
          sorted = rw (here, one_less n, t) at d;
          left = ends ∙ rw (u, places);
        }

-- ---- what is filled
module _ (q : Lookup) (keeps : Row → Bool) (s : List ℕ) (at count : ℕ) (x y : List ℕ) (d : IndexLeft q keeps s at count x y) where
  pub left_indexed : Indexed q keeps s at count y
  left_indexed =
      let zs : List ℕ = d.places in
      let g : take (length zs) (zs ++ drop (1 + length zs) x) ≡ zs = take_at zs (drop (1 + length zs) x) (length zs) refl in
      rw d.left
      (record {
        fits = omega (arith, length-append zs (drop (1 + length zs) x));
        rises = rw g (sorted_keys (key_at (by_of q) s) (places_at q keeps s at count) zs d.sorted);
        rows = rw g (collected_sorted q keeps s at count (places_at q keeps s at count) zs (collected q keeps s at count) d.sorted);
      })

  pub one_fill : (z : List ℕ) → IndexLeft q keeps s at count x z → y ≡ z
  one_fill z e =
      d.left
      ∙ rw (one_sort (key_at (by_of q) s) (places_at q keeps s at count) d.places e.places d.sorted e.sorted) (sym e.left)

-- only the index of a history is for the values that it was filled with
module _ (s : List ℕ) (at count : ℕ) (x a c b d : List ℕ) where
  pub any_code : Serves Lookup.Code (keeps_row Lookup.Code a c) s at count x → Serves Lookup.Code (keeps_row Lookup.Code b d) s at count x
  unfolding keeps_row
  any_code l = l

  pub any_name : Serves Lookup.Name (keeps_row Lookup.Name a c) s at count x → Serves Lookup.Name (keeps_row Lookup.Name b d) s at count x
  unfolding keeps_row
  any_name l = l
