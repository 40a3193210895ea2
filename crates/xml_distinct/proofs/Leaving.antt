-- What is left of the positions: all of them sorted, or the first 256 where two of these have the same name. There is one such run.
-- Assumes nothing.
use mathlib.Core.Path.{◌≡◌, sym, ◌∙◌}
use mathlib.Core.Bool.{Bool, true, false}
use mathlib.Core.List.{List, ◌++◌, append-nil}
use Prim.Native.Nat.{ℕ, ◌≤◌}
use native.Mathlib.Omega.{arith}
use lib.ListN.{length, take, drop, drop_of_length-le}
use lib.Seq.{take_all}
use Rattle.text_scan.specs.Choice.{pick}
use Rattle.sort_compare.specs.declared.By.{By}
use Rattle.sort_compare.specs.Keys.{key_at}
use Rattle.sort_places.specs.Sorting.{Sorted}
use Rattle.sort_places.proofs.Placing.{one_sort}
use Rattle.sort_places.proofs.Sorting.{sorted_from}
use Rattle.xml_distinct.specs.Repeats.{twice, sorted_to, PlacesLeft}
use Rattle.xml_distinct.proofs.Counting.{front_rearranged}

module _ (s bs : List ℕ) where
  all_left : length bs ≤ sorted_to s bs → (cs : List ℕ) → Sorted (key_at By.Name s) bs cs → PlacesLeft s bs cs
  all_left h cs d =
      record {
        front = cs;
        sorted = rw (take_all (sorted_to s bs) bs h) d;
        left = rw (drop_of_length-le bs h) (sym (append-nil cs));
      }

  pub few_left : length bs ≤ 256 → (cs : List ℕ) → Sorted (key_at By.Name s) bs cs → PlacesLeft s bs cs
  unfolding sorted_to
  few_left h = all_left (go (twice s (take 256 bs)))
    where
      go : (t : Bool) → length bs ≤ pick t 256 (length bs)
      go true = h
      go false = omega arith

  module _ (t : Bool) (e : t ≡ twice s (take 256 bs)) (cs : List ℕ) (d : Sorted (key_at By.Name s) (take 256 bs) cs) where
    pub front_left : t ≡ true → PlacesLeft s bs (cs ++ drop 256 bs)
    front_left f =
        let n : sorted_to s bs ≡ 256 = unfold sorted_to in rw (← e, f) in
        record { front = cs; sorted = rw n d; left = rw n }

    pub rest_left : t ≡ false → (ds : List ℕ) → Sorted (key_at By.Name s) (cs ++ drop 256 bs) ds → PlacesLeft s bs ds
    unfolding sorted_to
    rest_left f ds g =
        let n : length bs ≤ sorted_to s bs = rw (← e, f) (omega arith) in
        all_left n ds (sorted_from (key_at By.Name s) bs (cs ++ drop 256 bs) ds (front_rearranged s bs 256 (key_at By.Name s) cs d) g)

pub one_left : (s bs cs ds : List ℕ) → PlacesLeft s bs cs → PlacesLeft s bs ds → cs ≡ ds
one_left s bs cs ds d e =
    d.left
    ∙ rw (one_sort (key_at By.Name s) (take (sorted_to s bs) bs) d.front e.front d.sorted e.sorted) (sym e.left)
