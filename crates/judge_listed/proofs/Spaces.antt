-- 4 where 3 holds: a role lists a code or an extension or neither, and what it does not list says nothing.
-- Assumes nothing.
use mathlib.Core.Path.{◌≡◌, refl, sym, ◌∙◌}
use mathlib.Core.Bool.{Bool, true, false}
use mathlib.Core.List.{List, [], ◌∷◌}
use mathlib.Core.Logic.{inl, inr}
use Prim.Native.Nat.{ℕ}
use borrow.Author.Tests.{ne_eqb}
use Rattle.text_scan.specs.Choice.{◌and◌, not}
use Rattle.text_scan.specs.Bytes.{text}
use Rattle.text_scan.specs.Lists.{every, pairs}
use Rattle.text_scan.proofs.Tests.{never, pick_case, and_true}
use Rattle.text_facts.specs.Strings.{equal, without_space, is_one_of}
use Rattle.xml_values.proofs.Unlisted.{unlisted_says}
use Rattle.judge_paths.specs.Roles.{Id, Code, OrganisationId, OperationCode}
use Rattle.judge_paths.specs.Attributes.{Lists, attribute_table, is_role, listed_names}
use Rattle.judge_draft.specs.Drafts.{Draft, role, first, is_known, attribute}
use Rattle.judge_listed.specs.Listed.{lists_at, other_than, has_space, breaks3, breaks4}
use Rattle.judge_listed.proofs.Groups.{OneOf2}

-- ---- a role whose row does not list a name
module _ (q : ℕ) where
  abbrev Absent : List ℕ → List Lists → Type 0
  Absent name [] = Unit {0}
  Absent name (x ∷ xs) = (is_role q x.roles ≡ true → is_one_of x.names name ≡ false) × Absent name xs

  absent : (name : List ℕ) (xs : List Lists) → Absent name xs → is_one_of (listed_names q xs) name ≡ false
  unfolding listed_names is_one_of
  absent name [] a = refl
  absent name (x ∷ xs) a = pick_case (λ names. is_one_of names name ≡ false) (is_role q x.roles) x.names (listed_names q xs) a.0 (λ _. absent name xs a.1)

  neither : (a b : ℕ) → (OneOf2 a b q → ⊥) → is_role q (a ∷ b ∷ []) ≡ false
  neither a b h = rw (ne_eqb q a (λ e. h (inl e)), ne_eqb q b (λ e. h (inr e)))

  code_absent : (OneOf2 Code OperationCode q → ⊥) → is_one_of (listed_names q attribute_table) (text "code") ≡ false
  unfolding is_one_of equal pairs
  code_absent h =
      absent (text "code") attribute_table
      ((λ _. refl), ((λ _. refl), ((λ _. refl), ((λ e. never (sym e ∙ neither Code OperationCode h)), ((λ _. refl), ((λ _. refl), tt))))))

  extension_absent : (OneOf2 Id OrganisationId q → ⊥) → is_one_of (listed_names q attribute_table) (text "extension") ≡ false
  unfolding is_one_of equal pairs
  extension_absent h =
      absent (text "extension") attribute_table
      ((λ _. refl), ((λ e. never (sym e ∙ neither Id OrganisationId h)), ((λ _. refl), ((λ _. refl), ((λ _. refl), ((λ _. refl), tt))))))

-- the two groups have no role in common
no_code : (q : ℕ) → OneOf2 Id OrganisationId q → is_one_of (listed_names q attribute_table) (text "code") ≡ false
unfolding listed_names is_one_of equal pairs
no_code q (inl e) = rw e
no_code q (inr e) = rw e

no_extension : (q : ℕ) → OneOf2 Code OperationCode q → is_one_of (listed_names q attribute_table) (text "extension") ≡ false
unfolding listed_names is_one_of equal pairs
no_extension q (inl e) = rw e
no_extension q (inr e) = rw e

module _ (d : Draft) (n : ℕ) (o : other_than d n (lists_at d n) ≡ false) (q : ℕ) (e : q ≡ role d n) where
  silent : (name : List ℕ) → is_one_of (listed_names q attribute_table) name ≡ false → attribute d n name ≡ []
  unfolding other_than attribute
  silent name u = unlisted_says d.bytes (lists_at d n) name (rw e at u) (first d n) o

  pub space_at_id : OneOf2 Id OrganisationId q → (r : Bool) → r ≡ without_space (attribute d n (text "extension")) → not r ≡ has_space d n
  unfolding without_space every
  space_at_id h r g = rw (silent (text "code") (no_code q h), g)

  pub space_at_code : OneOf2 Code OperationCode q → (r : Bool) → r ≡ without_space (attribute d n (text "code")) → not r ≡ has_space d n
  unfolding without_space every
  space_at_code h r g = rw (silent (text "extension") (no_extension q h), and_true (without_space (attribute d n (text "code"))), g)

  pub space_elsewhere : (OneOf2 Id OrganisationId q → ⊥) → (OneOf2 Code OperationCode q → ⊥) → false ≡ has_space d n
  unfolding without_space every
  space_elsewhere h i = rw (silent (text "code") (code_absent q i), silent (text "extension") (extension_absent q h))

-- where 3 holds, 4 is broken only where a code or an extension is listed
pub no_space : (d : Draft) (n : ℕ) → breaks3 d n ≡ false → (OneOf2 Id OrganisationId (role d n) → ⊥) → (OneOf2 Code OperationCode (role d n) → ⊥) → breaks4 d n ≡ false
unfolding breaks3 breaks4
no_space d n e h i = go (is_known d n) e
  where
    go : (t : Bool) → t and other_than d n (lists_at d n) ≡ false → t and has_space d n ≡ false
    go true o = sym (space_elsewhere d n o (role d n) refl h i)
    go false o = refl
