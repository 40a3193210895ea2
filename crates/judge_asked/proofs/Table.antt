-- The code's table of the procedures of each role is what the procedures say: computed for all roles, and for numbers that no role has.
-- Assumes nothing.
use mathlib.Core.Path.{◌≡◌, refl, sym, ◌∙◌, ap}
use mathlib.Core.Bool.{true}
use mathlib.Core.List.{List, [], ◌∷◌}
use Prim.Native.Nat.{ℕ, zero, suc, ◌+◌, ◌<◌, ◌≤◌}
use native.Mathlib.Nat.{zero-add}
use native.Mathlib.Omega.{arith}
use borrow.Author.Tests.{ne_eqb, lt-ltb, leb-true}
use lib.Dec.{leb}
use lib.ListN.{length, get_or, get_or-eq_default}
use Rattle.text_scan.proofs.Within.{inside}
use Rattle.judge_paths.specs.Roles.{Unlisted, Root, Id, Code, EffectiveTime, SetId, VersionNumber, Entity1, Labeler, Entity2, Registrant, Entity3, Establishment, Entity4, Agent, OrganisationId, OrganisationName, ContactParty, Addr, Telecom, OperationCode, RequestEntity, RequestLabeler}
use Rattle.judge_procedures.specs.Procedures.{with_number, found_at, asked_from, asked_at}
use Rattle.judge_asked.specs.Asked.{most, padded, asked_row}

-- how many roles there are
abbrev pub roles : ℕ
roles = 39

-- ---- what a function gives for k, k + 1, .., m of them
unfoldable pub mapped : {A : Type 0} → (ℕ → A) → ℕ → ℕ → List A
mapped f k zero = []
mapped f k (suc m) = f k ∷ mapped f (k + 1) m

mapped_at : {A : Type 0} (f : ℕ → A) (z : A) (m k i : ℕ) → i < m → get_or (mapped f k m) i z ≡ f (k + i)
unfolding mapped
mapped_at f z zero k i h = absurd (omega arith)
mapped_at f z (suc m) k zero h =
    let e : k + 0 ≡ k = omega arith in
    rw e
mapped_at f z (suc m) k (suc i) h =
    let e : k + suc i ≡ k + 1 + i = omega arith in
    rw e (mapped_at f z m (k + 1) i (omega arith))

pub padded_length : (k : ℕ) (ps : List ℕ) → length (padded k ps) ≡ k
unfolding padded
padded_length zero ps = refl
padded_length (suc k) [] = ap suc (padded_length k [])
padded_length (suc k) (p ∷ ps) = ap suc (padded_length k ps)

-- an element without procedures of its own
title : asked_at 5 ≡ 3 ∷ 4 ∷ []
unfolding asked_at asked_from found_at with_number
title = refl

-- ---- a number that no role has
module _ (r : ℕ) (h : roles ≤ r) where
  pub asked_other : asked_at r ≡ 3 ∷ 4 ∷ []
  unfolding asked_at asked_from found_at with_number
  asked_other = rw (ne_eqb r Unlisted (λ e. absurd (omega arith)), ne_eqb r Root (λ e. absurd (omega arith)), ne_eqb r Id (λ e. absurd (omega arith)), ne_eqb r Code (λ e. absurd (omega arith)), ne_eqb r EffectiveTime (λ e. absurd (omega arith)), ne_eqb r SetId (λ e. absurd (omega arith)), ne_eqb r VersionNumber (λ e. absurd (omega arith)), ne_eqb r Entity1 (λ e. absurd (omega arith)), ne_eqb r Labeler (λ e. absurd (omega arith)), ne_eqb r Entity2 (λ e. absurd (omega arith)), ne_eqb r Registrant (λ e. absurd (omega arith)), ne_eqb r Entity3 (λ e. absurd (omega arith)), ne_eqb r Establishment (λ e. absurd (omega arith)), ne_eqb r Entity4 (λ e. absurd (omega arith)), ne_eqb r Agent (λ e. absurd (omega arith)), ne_eqb r OrganisationId (λ e. absurd (omega arith)), ne_eqb r OrganisationName (λ e. absurd (omega arith)), ne_eqb r ContactParty (λ e. absurd (omega arith)), ne_eqb r Addr (λ e. absurd (omega arith)), ne_eqb r Telecom (λ e. absurd (omega arith)), ne_eqb r OperationCode (λ e. absurd (omega arith)), ne_eqb r RequestEntity (λ e. absurd (omega arith)), ne_eqb r RequestLabeler (λ e. absurd (omega arith)), lt-ltb 1 r (omega arith))

-- ---- no role has more than there is room for
mapped_length : {A : Type 0} (f : ℕ → A) (m k : ℕ) → length (mapped f k m) ≡ m
unfolding mapped
mapped_length f zero k = refl
mapped_length f (suc m) k = ap suc (mapped_length f m (k + 1))

-- a list of numbers that are all low
abbrev low : ℕ → List ℕ → Type 0
low k [] = Unit {0}
low k (x ∷ xs) = (leb x k ≡ true) × low k xs

low_at : (k : ℕ) (xs : List ℕ) → low k xs → (i : ℕ) → i < length xs → get_or xs i 0 ≤ k
low_at k [] l i h = absurd (omega arith)
low_at k (x ∷ xs) l zero h = leb-true x k l.0
low_at k (x ∷ xs) l (suc i) h = low_at k xs l.1 i (omega arith)

few_lengths : low most (mapped (λ r. length (asked_at r)) 0 roles)
unfolding mapped asked_at asked_from found_at with_number
few_lengths = (refl, (refl, (refl, (refl, (refl, (refl, (refl, (refl, (refl, (refl, (refl, (refl, (refl, (refl, (refl, (refl, (refl, (refl, (refl, (refl, (refl, (refl, (refl, (refl, (refl, (refl, (refl, (refl, (refl, (refl, (refl, (refl, (refl, (refl, (refl, (refl, (refl, (refl, (refl, tt)))))))))))))))))))))))))))))))))))))))

pub asked_few : (r : ℕ) → length (asked_at r) ≤ most
asked_few r = inside roles r there past
  where
    there : r < roles → length (asked_at r) ≤ most
    there h =
        let e : 0 + r ≡ r = zero-add r in
        rw (← e) (rw (← mapped_at (λ r. length (asked_at r)) 0 roles 0 r h) (low_at most (mapped (λ r. length (asked_at r)) 0 roles) few_lengths r (omega (arith, mapped_length (λ r. length (asked_at r)) roles 0))))

    past : roles ≤ r → length (asked_at r) ≤ most
    past h = rw (asked_other r h) (omega arith)

-- ---- the code's table has the rows of all roles
module _ (table : List (List ℕ)) (e : table ≡ mapped asked_row 0 roles) (z : List ℕ) (r : ℕ) where
  pub row_there : r < roles → get_or table r z ≡ asked_row r
  row_there h =
      let k : 0 + r ≡ r = zero-add r in
      ap (λ t. get_or t r z) e ∙ (mapped_at asked_row z roles 0 r h ∙ rw k)

  pub row_past : roles ≤ r → get_or table 5 z ≡ asked_row r
  row_past h =
      ap (λ t. get_or t 5 z) e ∙ (mapped_at asked_row z roles 0 5 (omega arith) ∙ rw (asked_other r h, title))

pub asked_of : (r i : ℕ) (row : List ℕ) → row ≡ asked_row r → get_or row i 0 ≡ get_or (asked_row r) i 0
asked_of r i row e = rw e

pub asked_none : (r i : ℕ) → most ≤ i → 0 ≡ get_or (asked_row r) i 0
asked_none r i h = sym (get_or-eq_default (asked_row r) 0 (omega (arith, padded_length most (asked_at r))))
