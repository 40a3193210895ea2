-- The only one of what is looked for: where n is it, what holds of the one holds of n, and n passes the test.
-- Assumes nothing.
use Rattle.std.specs.Prelude.{Option, None, Some, ℕ}
use mathlib.Core.Path.{◌≡◌, refl, sym, ◌∙◌, ap}
use mathlib.Core.Bool.{Bool, true, false}
use mathlib.Core.List.{List, [], ◌∷◌}
use Prim.Native.Nat.{ℕ, zero, suc, ◌+◌, ◌-◌, ◌/◌}
use borrow.Author.Tests.{eqb-true}
use lib.Dec.{eqb, ltb}
use lib.ListN.{length}
use Rattle.text_scan.specs.Choice.{pick, ◌and◌}
use Rattle.text_scan.proofs.Tests.{never, and_true, and_false, and_right}
use Rattle.xml_steps.specs.Reading.{first_of, after_of}
use Rattle.judge_draft.specs.Below.{ancestor_in}
use Rattle.judge_draft.specs.Searched.{within, searched_from, searched}
use Rattle.judge_draft.specs.Drafts.{Draft, draft, is}
use Rattle.judge_below.specs.declared.Wanted.{Wanted}
use Rattle.judge_tests.specs.Passing.{passes}
use Rattle.judge_below.specs.Chosen.{meets, chosen, only_one, one, one_has, is_the}

-- "if it holds of the one, and n is that": it holds of n
pub the_has : (x : Option ℕ) (n : ℕ) (p : ℕ → Bool) → (one_has x p and is_the x n) ≡ (is_the x n and p n)
the_has None n p = refl
the_has (Some k) n p = go (eqb k n) refl
  where
    go : (t : Bool) → eqb k n ≡ t → (p k and t) ≡ (t and p n)
    go true e = and_true (p k) ∙ ap p (eqb-true k n e)
    go false e = and_false (p k)

pub the_one : (x : Option ℕ) (n : ℕ) → (one x and is_the x n) ≡ is_the x n
the_one None n = refl
the_one (Some k) n = refl

-- ---- what is chosen passes the test
module _ (s notes : List ℕ) (w : Wanted) (p : ℕ) where
  abbrev its : Draft
  its = draft s notes

  abbrev All : List ℕ → Type 0
  All [] = Unit {0}
  All (k ∷ ks) = (meets its w k ≡ true) × All ks

  abbrev rest : ℕ → ℕ → List ℕ
  rest k m = within notes w.levels (meets its w) p k m

  all_within : (m k : ℕ) → All (rest k m)
  unfolding within
  all_within zero k = tt
  all_within (suc m) k = go (ltb (first_of notes k) (after_of notes p)) (eqb (ancestor_in notes w.levels k) p) (meets its w k) refl (all_within m (k + 1))
    where
      go : (i a t : Bool) → meets its w k ≡ t → All (rest (k + 1) m) → All (pick i (pick (a and t) (k ∷ rest (k + 1) m) (rest (k + 1) m)) [])
      go true true true e a = (e, a)
      go true true false e a = a
      go true false t e a = a
      go false x t e a = tt

  the_met : (l : List ℕ) → All l → (n : ℕ) → is_the (only_one l) n ≡ true → meets its w n ≡ true
  the_met [] a n e = never (sym e)
  the_met (k ∷ []) a n e = rw (← eqb-true k n e) a.0
  the_met (k ∷ j ∷ l) a n e = never (sym e)

  its_met : (n : ℕ) → is_the (only_one (chosen its w p)) n ≡ true → meets its w n ≡ true
  unfolding chosen draft searched searched_from
  its_met n e = the_met (chosen its w p) (all_within (length notes / 4 - (p + 1)) (p + 1)) n e

  pub its_test : (n : ℕ) → is_the (only_one (chosen its w p)) n ≡ true → passes its w.test n ≡ true
  its_test n e = and_right (is its w.role n) (passes its w.test n) (its_met n e)
