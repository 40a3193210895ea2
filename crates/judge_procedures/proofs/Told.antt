-- The arms of the code: what procedure p demands where it is the one of a row, and where it is of none.
-- Assumes nothing.
use mathlib.Core.Path.{◌≡◌, refl, sym, ◌∙◌, ap}
use mathlib.Core.Bool.{Bool, true}
use mathlib.Core.List.{List, [], ◌∷◌, ◌++◌}
use Prim.Native.Nat.{ℕ, ◌<◌, ◌≤◌}
use native.Mathlib.Omega.{arith}
use borrow.Author.Tests.{ne_eqb, ltb-true, leb-true}
use lib.Dec.{leb, ltb}
use Rattle.text_scan.specs.Choice.{◌and◌}
use Rattle.text_scan.proofs.Tests.{and_left, and_right}
use Rattle.judge_draft.specs.declared.Demand.{Demand}
use Rattle.judge_draft.specs.declared.Demand.TheVariants.{Nothing}
use Rattle.judge_draft.specs.Drafts.{Draft}
use Rattle.judge_draft.specs.Demands.{broken_if}
use Rattle.judge_header.specs.declared.Header.{Header}
use Rattle.judge_procedures.specs.Procedures.{Procedure, no_procedure, listed_procedures, header_procedures, organisation_procedures, contact_procedures, registration_procedures, procedures, with_number, demand_in, demand_of}

-- ---- the row of number k
module _ (rows : List Procedure) (k : ℕ) where
  -- is broken where a test says so
  pub by_test : (t : Draft → Header → ℕ → Bool) → ((d : Draft) (h : Header) (n : ℕ) → broken_if (t d h n) ≡ demand_in rows d h k n) → (d : Draft) (h : Header) (n p : ℕ) (r : Demand) → p ≡ k → (b : Bool) → b ≡ t d h n → r ≡ broken_if b → r ≡ demand_in rows d h p n
  by_test t is d h n p r e b f g = g ∙ (ap broken_if f ∙ (is d h n ∙ ap (λ i. demand_in rows d h i n) (sym e)))

  -- or asks for a row of a table
  pub by_row : (q : Draft → Header → ℕ → Demand) → ((d : Draft) (h : Header) (n : ℕ) → q d h n ≡ demand_in rows d h k n) → (d : Draft) (h : Header) (n p : ℕ) (r : Demand) → p ≡ k → r ≡ q d h n → r ≡ demand_in rows d h p n
  by_row q is d h n p r e g = g ∙ (is d h n ∙ ap (λ i. demand_in rows d h i n) (sym e))

-- ---- none of the rows
abbrev Other : ℕ → List Procedure → Type 0
Other p [] = Unit {0}
Other p (x ∷ xs) = (p ≡ x.number → ⊥) × Other p xs

other : (p : ℕ) (rows : List Procedure) → Other p rows → with_number p rows ≡ no_procedure
unfolding with_number
other p [] o = refl
other p (x ∷ xs) o = rw (ne_eqb p x.number o.0) (other p xs o.1)

module _ (d : Draft) (h : Header) (n p : ℕ) where
  no_row : (rows : List Procedure) → Other p rows → Nothing ≡ demand_in rows d h p n
  unfolding demand_in
  no_row rows o = ap (λ x. x.asks d h n) (sym (other p rows o))

  pub no_listed : (p ≡ 1 → ⊥) → (p ≡ 2 → ⊥) → (p ≡ 3 → ⊥) → (p ≡ 4 → ⊥) → Nothing ≡ demand_in listed_procedures d h p n
  no_listed a b c e = no_row listed_procedures (a, (b, (c, (e, tt))))

  pub no_header : (p ≡ 5 → ⊥) → (p ≡ 6 → ⊥) → (p ≡ 7 → ⊥) → (p ≡ 8 → ⊥) → (p ≡ 9 → ⊥) → (p ≡ 10 → ⊥) → (p ≡ 11 → ⊥) → (p ≡ 12 → ⊥) → (p ≡ 13 → ⊥) → Nothing ≡ demand_in header_procedures d h p n
  no_header a b c e f g i j k = no_row header_procedures (a, (b, (c, (e, (f, (g, (i, (j, (k, tt)))))))))

  pub no_organisation : (p ≡ 14 → ⊥) → (p ≡ 15 → ⊥) → (p ≡ 16 → ⊥) → (p ≡ 17 → ⊥) → (p ≡ 18 → ⊥) → (p ≡ 19 → ⊥) → (p ≡ 20 → ⊥) → (p ≡ 21 → ⊥) → (p ≡ 22 → ⊥) → Nothing ≡ demand_in organisation_procedures d h p n
  no_organisation a b c e f g i j k = no_row organisation_procedures (a, (b, (c, (e, (f, (g, (i, (j, (k, tt)))))))))

  pub no_contact : (p ≡ 23 → ⊥) → (p ≡ 24 → ⊥) → (p ≡ 25 → ⊥) → (p ≡ 26 → ⊥) → (p ≡ 27 → ⊥) → (p ≡ 28 → ⊥) → (p ≡ 29 → ⊥) → (p ≡ 30 → ⊥) → Nothing ≡ demand_in contact_procedures d h p n
  no_contact a b c e f g i j = no_row contact_procedures (a, (b, (c, (e, (f, (g, (i, (j, tt))))))))

  pub no_registration : (p ≡ 31 → ⊥) → (p ≡ 32 → ⊥) → (p ≡ 33 → ⊥) → (p ≡ 34 → ⊥) → (p ≡ 35 → ⊥) → (p ≡ 36 → ⊥) → (p ≡ 37 → ⊥) → (p ≡ 38 → ⊥) → Nothing ≡ demand_in registration_procedures d h p n
  no_registration a b c e f g i j = no_row registration_procedures (a, (b, (c, (e, (f, (g, (i, (j, tt))))))))

-- ---- the rows before and behind a number
below : ℕ → List Procedure → Bool
below k [] = true
below k (x ∷ xs) = ltb x.number k and below k xs

from : ℕ → List Procedure → Bool
from k [] = true
from k (x ∷ xs) = leb k x.number and from k xs

module _ (k p : ℕ) where
  past : k ≤ p → (xs ys : List Procedure) → below k xs ≡ true → with_number p (xs ++ ys) ≡ with_number p ys
  unfolding with_number below
  past h [] ys e = refl
  past h (x ∷ xs) ys e =
      let i = ltb-true x.number k (and_left (ltb x.number k) (below k xs) e) in
      rw (ne_eqb p x.number (λ f. absurd (omega (arith, f)))) (past h xs ys (and_right (ltb x.number k) (below k xs) e))

  none : p < k → (ys : List Procedure) → from k ys ≡ true → with_number p ys ≡ no_procedure
  unfolding with_number from
  none h [] e = refl
  none h (y ∷ ys) e =
      let i = leb-true k y.number (and_left (leb k y.number) (from k ys) e) in
      rw (ne_eqb p y.number (λ f. absurd (omega (arith, f)))) (none h ys (and_right (leb k y.number) (from k ys) e))

  short : p < k → (xs ys : List Procedure) → from k ys ≡ true → with_number p (xs ++ ys) ≡ with_number p xs
  unfolding with_number
  short h [] ys e = none h ys e
  short h (x ∷ xs) ys e = rw (short h xs ys e)

module _ (d : Draft) (h : Header) (n p : ℕ) (r : Demand) where
  asked : (rows : List Procedure) → with_number p procedures ≡ with_number p rows → r ≡ demand_in rows d h p n → r ≡ demand_of d h p n
  unfolding demand_of demand_in
  asked rows e f = f ∙ ap (λ x. x.asks d h n) (sym e)

  pub in_listed : p < 5 → r ≡ demand_in listed_procedures d h p n → r ≡ demand_of d h p n
  unfolding from
  in_listed a = asked listed_procedures (short 5 p a listed_procedures (header_procedures ++ organisation_procedures ++ contact_procedures ++ registration_procedures) refl)

  module _ (a : 5 ≤ p) where
    after_listed : with_number p procedures ≡ with_number p (header_procedures ++ organisation_procedures ++ contact_procedures ++ registration_procedures)
    unfolding below
    after_listed = past 5 p a listed_procedures (header_procedures ++ organisation_procedures ++ contact_procedures ++ registration_procedures) refl

    pub in_header : p < 14 → r ≡ demand_in header_procedures d h p n → r ≡ demand_of d h p n
    unfolding from
    in_header b = asked header_procedures (after_listed ∙ short 14 p b header_procedures (organisation_procedures ++ contact_procedures ++ registration_procedures) refl)

  module _ (a : 14 ≤ p) where
    after_header : with_number p procedures ≡ with_number p (organisation_procedures ++ contact_procedures ++ registration_procedures)
    unfolding below
    after_header = after_listed (omega arith) ∙ past 14 p a header_procedures (organisation_procedures ++ contact_procedures ++ registration_procedures) refl

    pub in_organisations : p < 23 → r ≡ demand_in organisation_procedures d h p n → r ≡ demand_of d h p n
    unfolding from
    in_organisations b = asked organisation_procedures (after_header ∙ short 23 p b organisation_procedures (contact_procedures ++ registration_procedures) refl)

  module _ (a : 23 ≤ p) where
    after_organisations : with_number p procedures ≡ with_number p (contact_procedures ++ registration_procedures)
    unfolding below
    after_organisations = after_header (omega arith) ∙ past 23 p a organisation_procedures (contact_procedures ++ registration_procedures) refl

    pub in_contacts : p < 31 → r ≡ demand_in contact_procedures d h p n → r ≡ demand_of d h p n
    unfolding from
    in_contacts b = asked contact_procedures (after_organisations ∙ short 31 p b contact_procedures registration_procedures refl)

  module _ (a : 31 ≤ p) where
    pub in_registrations : r ≡ demand_in registration_procedures d h p n → r ≡ demand_of d h p n
    unfolding below
    in_registrations = asked registration_procedures (after_organisations (omega arith) ∙ past 31 p a contact_procedures registration_procedures refl)
