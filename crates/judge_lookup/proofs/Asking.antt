-- How many elements ask: the answer from the start is what was found and the answer from here.
-- Assumes nothing.
use mathlib.Core.Path.{◌≡◌, sym, ◌∙◌}
use mathlib.Core.Bool.{Bool, true, false}
use mathlib.Core.List.{List}
use Prim.Native.Nat.{ℕ, suc, ◌+◌, ◌-◌, ◌*◌, ◌/◌, ◌<◌, ◌≤◌}
use native.Mathlib.Omega.{arith}
use borrow.Author.Tests.{ne_eqb}
use lib.Dec.{eqb}
use lib.ListN.{length, get_or}
use Rattle.text_scan.proofs.Tests.{or_false}
use Rattle.judge_paths.specs.Roles.{Code, OrganisationId, OrganisationName, OperationCode}
use Rattle.judge_paths.specs.Attributes.{is_role}
use Rattle.judge_lookup.specs.Serving.{asking_roles, asking_from, asking}

-- ---- a role is one of those that ask, by the tests of the code
module _ (r : ℕ) where
  pub asks_code : r ≡ Code → true ≡ is_role r asking_roles
  asks_code e = rw e

  pub asks_operation : r ≡ OperationCode → true ≡ is_role r asking_roles
  asks_operation e = rw e

  pub asks_id : r ≡ OrganisationId → true ≡ is_role r asking_roles
  asks_id e = rw e

  pub asks_name : (r ≡ Code → ⊥) → (r ≡ OperationCode → ⊥) → (r ≡ OrganisationId → ⊥) → eqb r OrganisationName ≡ is_role r asking_roles
  asks_name a b c = rw (ne_eqb r Code a, ne_eqb r OperationCode b, ne_eqb r OrganisationId c, or_false (eqb r OrganisationName))

-- ---- the loop over the elements
-- what is left from element n on
unfoldable pub left : List ℕ → ℕ → ℕ
left notes n = asking_from notes n (length notes / 4 - n)

pub from_start : (notes : List ℕ) → asking notes ≡ 0 + left notes 0
unfolding left
from_start notes =
    let e : length notes / 4 - 0 ≡ length notes / 4 = omega arith in
    rw e (omega arith)

module _ (notes : List ℕ) (found n : ℕ) (l : asking notes ≡ found + left notes n) where
  pub found_all : length notes / 4 ≤ n → found ≡ asking notes
  unfolding asking_from left
  found_all h =
      let e : length notes / 4 - n ≡ 0 = omega arith in
      sym (l ∙ rw e (omega arith))

  module _ (h : n < length notes / 4) (t : Bool) (e : t ≡ is_role (get_or notes (4 * n) 0) asking_roles) where
    one_less : length notes / 4 - n ≡ suc (length notes / 4 - (n + 1))
    one_less = omega arith

    pub found_one : t ≡ true → asking notes ≡ found + 1 + left notes (n + 1)
    unfolding asking_from left
    found_one f = l ∙ rw (one_less, ← e, f) (omega arith)

    pub found_other : t ≡ false → asking notes ≡ found + left notes (n + 1)
    unfolding asking_from left
    found_other f = l ∙ rw (one_less, ← e, f)
