-- The attributes that a role lists, by the arms of the code: each is a row of the table, filled up with empty names, which no attribute has.
-- Assumes nothing.
use mathlib.Core.Path.{◌≡◌, ◌∙◌}
use mathlib.Core.Bool.{Bool}
use mathlib.Core.List.{List, [], ◌∷◌}
use mathlib.Core.Logic.{◌⊎◌, inl, inr}
use Prim.Native.Nat.{ℕ}
use borrow.Author.Tests.{ne_eqb}
use Rattle.text_scan.specs.Bytes.{text}
use Rattle.xml_values.specs.Attributes.{has_other}
use Rattle.xml_values.proofs.Attributes.{empty_name}
use Rattle.judge_paths.specs.Roles.{Root, Id, Code, Title, EffectiveTime, SetId, VersionNumber, OrganisationId, Telecom, OperationCode}
use Rattle.judge_paths.specs.Attributes.{attribute_table, listed_names}

abbrev pub OneOf2 : ℕ → ℕ → ℕ → Type 0
OneOf2 a b q = (q ≡ a) ⊎ (q ≡ b)

abbrev OneOf3 : ℕ → ℕ → ℕ → ℕ → Type 0
OneOf3 a b c q = (q ≡ a) ⊎ ((q ≡ b) ⊎ (q ≡ c))

module _ (s : List ℕ) (f q : ℕ) (r : Bool) where
  by_two : (x y : List ℕ) → r ≡ has_other s f (x ∷ y ∷ [] ∷ []) → r ≡ has_other s f (x ∷ y ∷ [])
  by_two x y g = g ∙ empty_name s f (x ∷ y ∷ [])

  by_one : (x : List ℕ) → r ≡ has_other s f (x ∷ [] ∷ [] ∷ []) → r ≡ has_other s f (x ∷ [])
  by_one x g = by_two x [] g ∙ empty_name s f (x ∷ [])

  pub lists_root : q ≡ Root → r ≡ has_other s f (text "xmlns" ∷ text "xmlns:xsi" ∷ text "xsi:schemaLocation" ∷ []) → r ≡ has_other s f (listed_names q attribute_table)
  unfolding listed_names
  lists_root e g = g ∙ rw e

  pub lists_id : OneOf2 Id OrganisationId q → r ≡ has_other s f (text "root" ∷ text "extension" ∷ [] ∷ []) → r ≡ has_other s f (listed_names q attribute_table)
  unfolding listed_names
  lists_id (inl e) g = by_two (text "root") (text "extension") g ∙ rw e
  lists_id (inr e) g = by_two (text "root") (text "extension") g ∙ rw e

  pub lists_set_id : q ≡ SetId → r ≡ has_other s f (text "root" ∷ [] ∷ [] ∷ []) → r ≡ has_other s f (listed_names q attribute_table)
  unfolding listed_names
  lists_set_id e g = by_one (text "root") g ∙ rw e

  pub lists_code : OneOf2 Code OperationCode q → r ≡ has_other s f (text "code" ∷ text "codeSystem" ∷ text "displayName" ∷ []) → r ≡ has_other s f (listed_names q attribute_table)
  unfolding listed_names
  lists_code (inl e) g = g ∙ rw e
  lists_code (inr e) g = g ∙ rw e

  pub lists_value : OneOf3 EffectiveTime VersionNumber Telecom q → r ≡ has_other s f (text "value" ∷ [] ∷ [] ∷ []) → r ≡ has_other s f (listed_names q attribute_table)
  unfolding listed_names
  lists_value (inl e) g = by_one (text "value") g ∙ rw e
  lists_value (inr (inl e)) g = by_one (text "value") g ∙ rw e
  lists_value (inr (inr e)) g = by_one (text "value") g ∙ rw e

  pub lists_title : q ≡ Title → r ≡ has_other s f (text "mediaType" ∷ [] ∷ [] ∷ []) → r ≡ has_other s f (listed_names q attribute_table)
  unfolding listed_names
  lists_title e g = by_one (text "mediaType") g ∙ rw e

  -- every other role
  pub lists_none : (q ≡ Root → ⊥) → (OneOf2 Id OrganisationId q → ⊥) → (q ≡ SetId → ⊥) → (OneOf2 Code OperationCode q → ⊥) → (OneOf3 EffectiveTime VersionNumber Telecom q → ⊥) → (q ≡ Title → ⊥) → r ≡ has_other s f ([] ∷ [] ∷ [] ∷ []) → r ≡ has_other s f (listed_names q attribute_table)
  unfolding listed_names
  lists_none a b c u v w g =
      by_one [] g ∙ empty_name s f []
      ∙ rw
      (ne_eqb q Root a, ne_eqb q Id (λ e. b (inl e)), ne_eqb q OrganisationId (λ e. b (inr e)), ne_eqb q SetId c, ne_eqb q Code (λ e. u (inl e)), ne_eqb q OperationCode (λ e. u (inr e)), ne_eqb q EffectiveTime (λ e. v (inl e)), ne_eqb q VersionNumber (λ e. v (inr (inl e))), ne_eqb q Telecom (λ e. v (inr (inr e))), ne_eqb q Title w)
