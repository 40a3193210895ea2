-- The walk along neighbours: before the place no two are the same, so the answer is that of the position before it and those from it on.
-- Assumes nothing.
use mathlib.Core.Path.{◌≡◌, refl, sym, ◌∙◌, ap}
use mathlib.Core.Bool.{Bool, true, false}
use mathlib.Core.List.{List, [], ◌∷◌}
use Prim.Native.Nat.{ℕ, ◌+◌, ◌-◌, ◌<◌, ◌≤◌}
use native.Mathlib.Omega.{arith}
use lib.ListN.{length, drop, get_or, drop_of_length-le}
use Rattle.text_scan.proofs.Within.{drop_here}
use Rattle.text_scan.proofs.Tests.{not_passed, never}
use Rattle.sort_compare.specs.declared.By.{By}
use Rattle.std.specs.declared.cmp.Ordering.{Ordering}
use Rattle.std.specs.declared.cmp.Ordering.TheVariants.{Less, Equal, Greater}
use Rattle.std.specs.Ordering.{is_eq}
use Rattle.sort_compare.specs.Order.{order}
use Rattle.xml_names.specs.Names.{name_at}
use Rattle.sort_compare.specs.Keys.{key_at}
use Rattle.sort_compare.proofs.Ordering.{order_refl, order_same}
use Rattle.xml_distinct.specs.Repeats.{is_called}
use Rattle.xml_distinct.specs.Neighbours.{neighbours_from, neighbours}
use Rattle.xml_distinct.proofs.Counting.{same_pairs, pairs_same}

-- the answer for all is that for the position before the place i and those from it on
unfoldable pub Asked : List ℕ → List ℕ → ℕ → Type 0
Asked s a i = neighbours s a ≡ neighbours_from s (get_or a (i - 1) 0) (drop i a)

pub ask_starts : (s a : List ℕ) → Asked s a 1
unfolding Asked neighbours neighbours_from
ask_starts s [] = refl
ask_starts s (b ∷ bs) = refl

module _ (s a : List ℕ) (i : ℕ) (l : Asked s a i) where
  pub ask_ends : length a ≤ i → false ≡ neighbours s a
  unfolding Asked neighbours_from
  ask_ends h = let e : drop i a ≡ [] = drop_of_length-le a h in sym (rw e at l)

  module _ (h : i < length a) (r : Ordering) (er : r ≡ order (key_at By.Name s (get_or a (i - 1) 0)) (key_at By.Name s (get_or a i 0))) where
    same : r ≡ Equal → true ≡ neighbours s a
    unfolding Asked neighbours_from
    same f =
        let e : name_at s (get_or a (i - 1) 0) ≡ name_at s (get_or a i 0) = order_same (name_at s (get_or a (i - 1) 0)) (name_at s (get_or a i 0)) (sym er ∙ f) in
        sym (l ∙ rw (drop_here a i h, e, same_pairs (name_at s (get_or a i 0))))

    pub ask_same : (t : Bool) → t ≡ is_eq r → t ≡ true → true ≡ neighbours s a
    ask_same t e f = go r refl (sym e ∙ f)
      where
        go : (o : Ordering) → r ≡ o → is_eq o ≡ true → true ≡ neighbours s a
        go Less p q = never (sym q)
        go Equal p q = same p
        go Greater p q = never (sym q)

    goes : (r ≡ Equal → ⊥) → Asked s a (i + 1)
    unfolding Asked neighbours_from
    goes f =
        let q : i + 1 - 1 ≡ i = omega arith in
        let e : is_called s (name_at s (get_or a (i - 1) 0)) (get_or a i 0) ≡ false = not_passed (is_called s (name_at s (get_or a (i - 1) 0)) (get_or a i 0)) (λ t. f (er ∙ rw (pairs_same (name_at s (get_or a (i - 1) 0)) (name_at s (get_or a i 0)) t) (order_refl (name_at s (get_or a i 0))))) in
        l ∙ rw (drop_here a i h, e, q)

    pub ask_other : (t : Bool) → t ≡ is_eq r → t ≡ false → Asked s a (i + 1)
    ask_other t e f = goes (λ g. never (sym (e ∙ ap is_eq g) ∙ f))
