-- Two of the same name, by how many positions have a name: that does not depend on their order.
-- Assumes nothing.
use mathlib.Core.Path.{◌≡◌, refl, sym, ◌∙◌, ap}
use mathlib.Core.Bool.{Bool, true, false}
use mathlib.Core.List.{List, [], ◌∷◌, ◌++◌}
use Prim.Native.Nat.{ℕ, ◌+◌, ◌*◌, ◌<◌, ◌≤◌}
use native.Mathlib.Omega.{arith}
use borrow.Author.Tests.{lt-ltb, ltb-true}
use lib.Dec.{eqb}
use lib.ListN.{length, take, drop, take-append-drop}
use lib.Seq.{length-take-le}
use Rattle.text_scan.specs.Choice.{pick, ◌or◌}
use Rattle.text_scan.specs.Lists.{some, pairs}
use Rattle.text_scan.proofs.Tests.{never, or_true}
use Rattle.text_facts.specs.Strings.{equal}
use Rattle.text_facts.proofs.StringLaws.{equal_same, equal_is}
use Rattle.xml_names.specs.Names.{name_at}
use Rattle.sort_places.specs.Sorting.{count, Rearranged, Sorted}
use Rattle.sort_places.proofs.Counting.{count_append, some_count}
use Rattle.sort_places.proofs.Sorting.{sorted_same}
use Rattle.xml_distinct.specs.Repeats.{is_called, twice}

-- ---- equal lists, element by element
pub same_pairs : (l : List ℕ) → pairs eqb l l ≡ true
unfolding equal
same_pairs = equal_same

pub pairs_same : (l m : List ℕ) → pairs eqb l m ≡ true → l ≡ m
unfolding equal
pairs_same = equal_is

-- ---- some name is had by two
module _ (s : List ℕ) where
  twice_count : {A : Type 0} (bs : List ℕ) → twice s bs ≡ true → ((t : List ℕ) → 2 ≤ count (is_called s t) bs → A) → A
  unfolding twice count
  twice_count [] e f = never (sym e)
  twice_count {A} (b ∷ bs) e f = go (some (is_called s (name_at s b)) bs) refl e (λ h. twice_count bs h (λ t k. f t (omega arith)))
    where
      go : (t : Bool) → some (is_called s (name_at s b)) bs ≡ t → t or twice s bs ≡ true → (twice s bs ≡ true → A) → A
      go true g h k = f (name_at s b) (rw (same_pairs (name_at s b)) (omega (arith, ltb-true 0 (count (is_called s (name_at s b)) bs) (sym (some_count (is_called s (name_at s b)) bs) ∙ g))))
      go false g h k = k h

  count_twice : (t bs : List ℕ) → 2 ≤ count (is_called s t) bs → twice s bs ≡ true
  unfolding twice count
  count_twice t [] h = absurd (omega arith)
  count_twice t (b ∷ bs) h = go (is_called s t b) refl h (count_twice t bs)
    where
      go : (u : Bool) → is_called s t b ≡ u → 2 ≤ pick u 1 0 + count (is_called s t) bs → (2 ≤ count (is_called s t) bs → twice s bs ≡ true) → some (is_called s (name_at s b)) bs or twice s bs ≡ true
      go true e g k = rw (← pairs_same t (name_at s b) e, some_count (is_called s t) bs, lt-ltb 0 (count (is_called s t) bs) (omega arith))
      go false e g k = rw (k (omega arith)) (or_true (some (is_called s (name_at s b)) bs))

  -- where each property is had by as many or more
  twice_kept : (bs cs : List ℕ) → ((p : ℕ → Bool) → count p bs ≤ count p cs) → twice s bs ≡ true → twice s cs ≡ true
  twice_kept bs cs h e = twice_count bs e (λ t k. count_twice t cs (omega (arith, h (is_called s t))))

  -- the same positions in another order
  pub same_twice : (bs cs : List ℕ) → Rearranged bs cs → twice s bs ≡ twice s cs
  same_twice bs cs h = go (twice s bs) (twice s cs) refl refl
    where
      go : (t u : Bool) → twice s bs ≡ t → twice s cs ≡ u → t ≡ u
      go true u e f = sym (twice_kept bs cs (λ p. omega (arith, h p)) e) ∙ f
      go false true e f = sym e ∙ twice_kept cs bs (λ p. omega (arith, h p)) f
      go false false e f = refl

  -- ---- a part in front is sorted first
  module _ (bs : List ℕ) (k : ℕ) where
    parted : (p : ℕ → Bool) → count p bs ≡ count p (take k bs) + count p (drop k bs)
    parted p = ap (count p) (sym (take-append-drop k bs)) ∙ count_append p (take k bs) (drop k bs)

    pub front_twice : (t : Bool) → t ≡ twice s (take k bs) → t ≡ true → true ≡ twice s bs
    front_twice t e f = sym (twice_kept (take k bs) bs (λ p. omega (arith, parted p)) (sym e ∙ f))

    module _ (key : ℕ → List ℕ) (cs : List ℕ) (d : Sorted key (take k bs) cs) where
      pub front_rearranged : Rearranged bs (cs ++ drop k bs)
      front_rearranged p = omega (arith, parted p, sorted_same key (take k bs) cs d p, count_append p cs (drop k bs))

      pub rest_twice : (r : Bool) → r ≡ twice s (cs ++ drop k bs) → r ≡ twice s bs
      rest_twice r e = e ∙ sym (same_twice bs (cs ++ drop k bs) front_rearranged)

pub front_room : (bs room : List ℕ) (k : ℕ) → k < length bs → length bs ≤ 2 * length room → length (take k bs) ≤ 2 * length room
front_room bs room k h g = omega (arith, length-take-le k bs (omega arith))
