-- Telecoms, 26 to 29: one law for each branch of the code.
-- Assumes nothing.
use mathlib.Core.Path.{◌≡◌, refl, ◌∙◌}
use mathlib.Core.Bool.{Bool, true, false}
use mathlib.Core.Logic.{◌⊎◌, inl, inr}
use Prim.Native.Nat.{ℕ, zero, suc}
use lib.Dec.{leb, ltb}
use lib.ListN.{length}
use native.Mathlib.Omega.{arith}
use borrow.Author.Tests.{le-leb, le-ltb, ne_eqb}
use Rattle.text_scan.specs.Choice.{not}
use Rattle.text_scan.specs.Bytes.{text}
use Rattle.text_telephones.specs.Telephones.{is_telephone}
use Rattle.judge_paths.specs.Roles.{Agent, ContactParty, Telecom}
use Rattle.judge_tests.specs.declared.Test.TheVariants.{Any, Telephone, Mail}
use Rattle.judge_draft.specs.Drafts.{Draft, role, is, attribute, is_empty, value_begins}
use Rattle.judge_below.specs.Chosen.{chosen, wanted}
use Rattle.judge_contacts.specs.Contacts.{has_telecoms, breaks26, breaks27, breaks28, breaks29}

-- ---- who has telecoms
module _ (d : Draft) (n q : ℕ) (e : q ≡ role d n) where
  pub telecoms_of : (q ≡ Agent) ⊎ (q ≡ ContactParty) → true ≡ has_telecoms d n
  unfolding has_telecoms is
  telecoms_of (inl f) = rw (← e, f)
  telecoms_of (inr f) = rw (← e, f)

  pub telecoms_none : ((q ≡ Agent) ⊎ (q ≡ ContactParty) → ⊥) → false ≡ has_telecoms d n
  unfolding has_telecoms is
  telecoms_none h = rw (← e, ne_eqb q Agent (λ f. h (inl f)), ne_eqb q ContactParty (λ f. h (inr f)))

-- ---- 26 to 28
few : (x : ℕ) → ltb x 2 ≡ not (leb 2 x)
few zero = refl
few (suc zero) = refl
few (suc (suc x)) = rw (le-ltb (suc (suc x)) 2 (omega arith), le-leb 2 (suc (suc x)) (omega arith))

module _ (d : Draft) (n : ℕ) (a : Bool) (e : a ≡ has_telecoms d n) where
  pub other_26 : a ≡ false → false ≡ breaks26 d n
  unfolding breaks26
  other_26 f = rw (← e, f)

  pub few_26 : a ≡ true → (x : ℕ) → x ≡ length (chosen d (wanted Telecom 1 Any) n) → ltb x 2 ≡ breaks26 d n
  unfolding breaks26
  few_26 f x g = few x ∙ rw (← e, f, ← g)

  pub other_27 : a ≡ false → false ≡ breaks27 d n
  unfolding breaks27
  other_27 f = rw (← e, f)

  pub none_27 : a ≡ true → (r : Bool) → r ≡ is_empty (chosen d (wanted Telecom 1 Telephone) n) → r ≡ breaks27 d n
  unfolding breaks27
  none_27 f r g = g ∙ rw (← e, f)

  pub other_28 : a ≡ false → false ≡ breaks28 d n
  unfolding breaks28
  other_28 f = rw (← e, f)

  pub none_28 : a ≡ true → (r : Bool) → r ≡ is_empty (chosen d (wanted Telecom 1 Mail) n) → r ≡ breaks28 d n
  unfolding breaks28
  none_28 f r g = g ∙ rw (← e, f)

-- ---- 29
module _ (d : Draft) (n : ℕ) (a : Bool) (e : a ≡ is d Telecom n) where
  pub other_29 : a ≡ false → false ≡ breaks29 d n
  unfolding breaks29
  other_29 f = rw (← e, f)

  module _ (f : a ≡ true) (b : Bool) (g : b ≡ value_begins d (text "tel:") n) where
    pub mail_29 : b ≡ false → false ≡ breaks29 d n
    unfolding breaks29
    mail_29 h = rw (← e, f, ← g, h)

    pub value_29 : b ≡ true → (r : Bool) → r ≡ is_telephone (attribute d n (text "value")) → not r ≡ breaks29 d n
    unfolding breaks29
    value_29 h r i = rw (← e, f, ← g, h, ← i)
