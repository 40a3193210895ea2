-- What is known has a known parent, and so has what is unlisted; all below what is not known is not judged.
-- Assumes nothing.
use mathlib.Core.Path.{◌≡◌, refl, sym, ◌∙◌}
use mathlib.Core.Bool.{Bool, true, false}
use mathlib.Core.List.{List}
use Prim.Native.Nat.{ℕ}
use native.Mathlib.Omega.{arith}
use lib.Dec.{eqb}
use Rattle.text_scan.specs.Choice.{pick, ◌or◌, not}
use Rattle.text_scan.proofs.Tests.{never, and_left}
use Rattle.xml_steps.specs.Reading.{parent_of}
use Rattle.judge_paths.specs.declared.DocumentType.{DocumentType}
use Rattle.judge_paths.specs.Roles.{Unknown, Unlisted, Author, is_known_role}
use Rattle.judge_paths.specs.Paths.{fits, either, table, role_named, is_judged, child_role, has_row, element_name, role_of}
use Rattle.judge_paths.proofs.Walks.{role_root, role_told}

-- judged by a test that fails for Unknown
module _ (q : ℕ → Bool) (z : q Unknown ≡ false) where
  judged_child : (t : DocumentType) (p : ℕ) (name : List ℕ) → q (child_role t p name) ≡ true → is_known_role p ≡ true
  unfolding child_role
  judged_child t p name e = go (is_judged t p) refl e
    where
      go : (b : Bool) → is_judged t p ≡ b → q (pick b (role_named t p name table) Unknown) ≡ true → is_known_role p ≡ true
      go true f e = and_left (is_known_role p) (not (eqb p Author) or fits either t) f
      go false f e = never (sym e ∙ z)

  judged_parent : (s rows : List ℕ) (t : DocumentType) (n : ℕ) → (n ≡ 0 → ⊥) → q (role_of s rows t n) ≡ true → is_known_role (role_of s rows t (parent_of rows n)) ≡ true
  judged_parent s rows t n y e = go (has_row s rows n) (rw (role_told s rows t n y) at e)
    where
      go : (b : Bool) → q (pick b (child_role t (role_of s rows t (parent_of rows n)) (element_name s rows n)) Unknown) ≡ true → is_known_role (role_of s rows t (parent_of rows n)) ≡ true
      go true e = judged_child t (role_of s rows t (parent_of rows n)) (element_name s rows n) e
      go false e = never (sym e ∙ z)

module _ (s rows : List ℕ) (t : DocumentType) (n : ℕ) where
  pub known_parent : (n ≡ 0 → ⊥) → is_known_role (role_of s rows t n) ≡ true → is_known_role (role_of s rows t (parent_of rows n)) ≡ true
  known_parent y e = judged_parent is_known_role refl s rows t n y e

  -- the root is never unlisted
  pub unlisted_parent : role_of s rows t n ≡ Unlisted → is_known_role (role_of s rows t (parent_of rows n)) ≡ true
  unlisted_parent e =
      judged_parent (λ r. eqb r Unlisted) refl s rows t n (λ y. absurd (let z : ◌≡◌ {A = ℕ} 0 1 = cc (role_root s rows t n y) in omega arith)) (rw e)
