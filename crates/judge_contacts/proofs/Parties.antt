-- Who has a contact, and the person of a contactParty: one law for each branch of the code.
-- Assumes nothing.
use Rattle.std.specs.Prelude.{Option, None, Some, ℕ}
use mathlib.Core.Path.{◌≡◌, ◌∙◌, ap}
use mathlib.Core.Bool.{Bool, true, false}
use mathlib.Core.Logic.{◌⊎◌, inl, inr}
use Prim.Native.Nat.{ℕ}
use borrow.Author.Tests.{ne_eqb}
use Rattle.text_scan.specs.Choice.{◌and◌, not}
use Rattle.judge_paths.specs.Roles.{Registrant, Establishment, ContactParty, ContactPerson, PersonName, RequestLabeler}
use Rattle.judge_draft.specs.Drafts.{Draft, role, parent, is}
use Rattle.judge_below.specs.Chosen.{one, is_the, only_kid}
use Rattle.judge_below.proofs.TheOne.{the_one}
use Rattle.judge_addresses.specs.Addresses.{one_said}
use Rattle.judge_addresses.proofs.Addresses.{asked_last}
use Rattle.judge_contacts.specs.Contacts.{has_contact, contact_holds, breaks23, person_holds, breaks30}

-- ---- who has a contact
module _ (d : Draft) (n q : ℕ) (e : q ≡ role d n) where
  pub contact_of : (q ≡ Registrant) ⊎ ((q ≡ Establishment) ⊎ (q ≡ RequestLabeler)) → true ≡ has_contact d n
  unfolding has_contact is
  contact_of (inl f) = rw (← e, f)
  contact_of (inr (inl f)) = rw (← e, f)
  contact_of (inr (inr f)) = rw (← e, f)

  pub contact_none : ((q ≡ Registrant) ⊎ ((q ≡ Establishment) ⊎ (q ≡ RequestLabeler)) → ⊥) → false ≡ has_contact d n
  unfolding has_contact is
  contact_none h = rw (← e, ne_eqb q Registrant (λ f. h (inl f)), ne_eqb q Establishment (λ f. h (inr (inl f))), ne_eqb q RequestLabeler (λ f. h (inr (inr f))))

-- ---- 23
module _ (d : Draft) (n : ℕ) (a : Bool) (e : a ≡ has_contact d n) where
  pub holds_23 : a ≡ false → false ≡ breaks23 d n
  unfolding breaks23
  holds_23 f = rw (← e, f)

  pub party_23 : a ≡ true → (r : Bool) → r ≡ one (only_kid d n ContactParty) → not r ≡ breaks23 d n
  unfolding breaks23 contact_holds
  party_23 f r g = rw (← e, f, ← g)

-- ---- the person of a contactParty
module _ (d : Draft) (n : ℕ) (x : Option ℕ) (e : x ≡ only_kid d n ContactPerson) where
  pub person_none : x ≡ None → false ≡ person_holds d n
  unfolding person_holds
  person_none f = rw (← e, f)

  pub person_one : (k : ℕ) → x ≡ Some k → (b : Bool) → b ≡ one_said d k PersonName → b ≡ person_holds d n
  unfolding person_holds
  person_one k f b g = g ∙ rw (← e, f)

-- ---- 30
-- 23 holds and n is the one contactParty: n is the one
in_order_30 : (d : Draft) (n : ℕ) → breaks30 d n ≡ (is d ContactParty n and has_contact d (parent d n) and not (person_holds d n) and is_the (only_kid d (parent d n) ContactParty) n)
unfolding breaks30 contact_holds
in_order_30 d n =
    let x : Option ℕ = only_kid d (parent d n) ContactParty in
    ap (λ u. is d ContactParty n and has_contact d (parent d n) and u) (asked_last (one x) (is_the x n) (is_the x n) (not (person_holds d n)) (the_one x n))

module _ (d : Draft) (n : ℕ) (a : Bool) (e : a ≡ is d ContactParty n) where
  pub other_30 : a ≡ false → false ≡ breaks30 d n
  unfolding breaks30
  other_30 f = rw (← e, f)

  module _ (f : a ≡ true) (p : ℕ) (q : p ≡ parent d n) (b : Bool) (g : b ≡ has_contact d p) where
    pub nobody_30 : b ≡ false → false ≡ breaks30 d n
    unfolding breaks30
    nobody_30 h = rw (← e, f, ← q, ← g, h)

    module _ (h : b ≡ true) (c : Bool) (i : c ≡ person_holds d n) where
      pub person_30 : c ≡ true → false ≡ breaks30 d n
      person_30 j = rw (in_order_30 d n, ← e, f, ← q, ← g, h, ← i, j)

      pub only_30 : c ≡ false → (r : Bool) → r ≡ is_the (only_kid d p ContactParty) n → r ≡ breaks30 d n
      only_30 j r k = k ∙ rw (in_order_30 d n, ← e, f, ← q, ← g, h, ← i, j)
