-- Positions in order by their keys and, where these are the same, by themselves: their keys rise, and no other run of the same positions is in order.
-- Assumes nothing.
use mathlib.Core.Path.{◌≡◌, refl, sym, ◌∙◌, ap, ap₂}
use mathlib.Core.Bool.{Bool, true, false}
use mathlib.Core.List.{List, [], ◌∷◌}
use Prim.Native.Nat.{ℕ, ◌+◌, ◌<◌}
use native.Mathlib.Omega.{arith}
use borrow.Author.Tests.{eqb-true, eq-eqb}
use lib.Dec.{eqb}
use lib.ListN.{get_or}
use Rattle.text_scan.specs.Choice.{pick}
use Rattle.text_scan.proofs.Tests.{and_left, and_right}
use Rattle.std.specs.declared.cmp.Ordering.{Ordering}
use Rattle.std.specs.declared.cmp.Ordering.TheVariants.{Less, Equal, Greater}
use Rattle.std.specs.Ordering.{nat_cmp, ordering_then, is_le}
use Rattle.sort_compare.specs.Order.{order}
use Rattle.sort_compare.specs.Fields.{coded}
use Rattle.sort_compare.proofs.Comparing.{order_coded}
use Rattle.sort_compare.proofs.Ordering.{same_less, more_same, told, by_less, by_more, order_refl, order_same, in_order_trans, in_order_both}
use Rattle.sort_places.specs.Sorting.{count, Rearranged, leads, rising, with_place, Sorted}

then_same : (o : Ordering) → ordering_then o Equal ≡ o
then_same Less = refl
then_same Equal = refl
then_same Greater = refl

-- ---- two positions
module _ (key : ℕ → List ℕ) (b c : ℕ) where
  place_order : order (with_place key b) (with_place key c) ≡ ordering_then (order (key b) (key c)) (order (b ∷ []) (c ∷ []))
  unfolding with_place
  place_order =
      order_coded (key b) (key c) ((b ∷ []) ∷ []) ((c ∷ []) ∷ [])
      ∙ ap (ordering_then (order (key b) (key c))) (order_coded (b ∷ []) (c ∷ []) [] [] ∙ ap (ordering_then (order (b ∷ []) (c ∷ []))) (order_refl (coded [])) ∙ then_same (order (b ∷ []) (c ∷ [])))

  number_order : nat_cmp b c ≡ order (b ∷ []) (c ∷ [])
  number_order =
      told b c (nat_cmp b c) (order (b ∷ []) (c ∷ [])) refl
      (λ h. sym (by_less b c [] [] h))
      (λ h. rw h (sym (order_refl (c ∷ []))))
      (λ h. sym (by_more b c [] [] h))

  -- as the code finds out whether b is not after c
  pub told_in_order : (r : Bool) (q o p : Ordering) → r ≡ is_le q → q ≡ ordering_then o p → o ≡ order (key b) (key c) → p ≡ nat_cmp b c → r ≡ is_le (order (with_place key b) (with_place key c))
  told_in_order r q o p g h e f = g ∙ rw (h, place_order, ← e, ← number_order, ← f)

  keys_in_order : is_le (order (with_place key b) (with_place key c)) ≡ true → is_le (order (key b) (key c)) ≡ true
  keys_in_order e = go (order (key b) (key c)) (rw place_order at e)
    where
      go : (o : Ordering) → is_le (ordering_then o (order (b ∷ []) (c ∷ []))) ≡ true → is_le o ≡ true
      go Less f = refl
      go Equal f = refl
      go Greater f = f

  -- only a position is the same as itself
  same_place : with_place key b ≡ with_place key c → b ≡ c
  same_place e =
      ap (λ (l : List ℕ). get_or l 0 0)
      (order_same (b ∷ []) (c ∷ []) (go (order (key b) (key c)) (sym place_order ∙ ap (order (with_place key b)) (sym e) ∙ order_refl (with_place key b))))
    where
      go : (o : Ordering) → ordering_then o (order (b ∷ []) (c ∷ [])) ≡ Equal → order (b ∷ []) (c ∷ []) ≡ Equal
      go Less f = same_less (sym f)
      go Equal f = f
      go Greater f = more_same f

-- ---- keys rise
module _ (key : ℕ → List ℕ) where
  keys_lead : (b : ℕ) (bs : List ℕ) → leads (with_place key) b bs ≡ true → leads key b bs ≡ true
  keys_lead b [] e = refl
  keys_lead b (c ∷ cs) e = keys_in_order key b c e

  pub keys_rise : (bs : List ℕ) → rising (with_place key) bs ≡ true → rising key bs ≡ true
  unfolding rising
  keys_rise [] e = refl
  keys_rise (b ∷ bs) e =
      let f : leads key b bs ≡ true = keys_lead b bs (and_left (leads (with_place key) b bs) (rising (with_place key) bs) e) in
      let g : rising key bs ≡ true = keys_rise bs (and_right (leads (with_place key) b bs) (rising (with_place key) bs) e) in
      rw (f, g)

-- ---- one run only: the first of both is the same, and so on
-- as many have each property behind the first, where the first is the same
behind_first : (b : ℕ) (bs cs : List ℕ) → Rearranged (b ∷ bs) (b ∷ cs) → Rearranged bs cs
unfolding count
behind_first b bs cs f p = omega (arith, f p)

-- a position counts as itself
counts_itself : (b : ℕ) (bs : List ℕ) → 0 < count (eqb b) (b ∷ bs)
unfolding count
counts_itself b bs = rw (eq-eqb b b refl) (omega arith)

module _ (key : ℕ → List ℕ) where
  -- the first of those that rise is not after any of them
  here_or_behind : (b c n : ℕ) → 0 < pick (eqb c b) 1 0 + n → (0 < n → is_le (order (key b) (key c)) ≡ true) → is_le (order (key b) (key c)) ≡ true
  here_or_behind b c n h f = go (eqb c b) refl h
    where
      go : (t : Bool) → eqb c b ≡ t → 0 < pick t 1 0 + n → is_le (order (key b) (key c)) ≡ true
      go true e g = rw (eqb-true c b e, order_refl (key b))
      go false e g = f (omega arith)

  first_leads : (b : ℕ) (bs : List ℕ) (c : ℕ) → rising key (b ∷ bs) ≡ true → 0 < count (eqb c) (b ∷ bs) → is_le (order (key b) (key c)) ≡ true
  unfolding rising count
  first_leads b [] c e h = here_or_behind b c 0 h (λ g. absurd (omega arith))
  first_leads b (d ∷ ds) c e h =
      here_or_behind b c (count (eqb c) (d ∷ ds)) h
      (λ g. in_order_trans (key b) (key d) (key c) (and_left (leads key b (d ∷ ds)) (rising key (d ∷ ds)) e) (first_leads d ds c (and_right (leads key b (d ∷ ds)) (rising key (d ∷ ds)) e) g))

  same_first : ((b c : ℕ) → key b ≡ key c → b ≡ c) → (b c : ℕ) (bs cs : List ℕ) → rising key (b ∷ bs) ≡ true → rising key (c ∷ cs) ≡ true → Rearranged (b ∷ bs) (c ∷ cs) → b ≡ c
  same_first only b c bs cs e f g =
      only b c
      (in_order_both (key b) (key c)
      (first_leads b bs c e (rw (g (eqb c)) (counts_itself c cs)))
      (first_leads c cs b f (rw (← g (eqb b)) (counts_itself b bs))))

  rising_once : ((b c : ℕ) → key b ≡ key c → b ≡ c) → (bs cs : List ℕ) → rising key bs ≡ true → rising key cs ≡ true → Rearranged bs cs → bs ≡ cs
  unfolding rising count
  rising_once only [] [] e f g = refl
  rising_once only [] (c ∷ cs) e f g = absurd (omega (arith, g (λ _. true)))
  rising_once only (b ∷ bs) [] e f g = absurd (omega (arith, g (λ _. true)))
  rising_once only (b ∷ bs) (c ∷ cs) e f g =
      let h : b ≡ c = same_first only b c bs cs e f g in
      ap₂ (λ d ds. d ∷ ds) h
      (rising_once only bs cs (and_right (leads key b bs) (rising key bs) e) (and_right (leads key c cs) (rising key cs) f) (behind_first b bs cs (rw (sym h) at g)))

pub one_sort : (key : ℕ → List ℕ) (bs cs ds : List ℕ) → Sorted key bs cs → Sorted key bs ds → cs ≡ ds
unfolding Sorted
one_sort key bs cs ds d e =
    rising_once (with_place key) (same_place key) cs ds d.0 e.0 (λ p. sym (d.1 p) ∙ e.1 p)
