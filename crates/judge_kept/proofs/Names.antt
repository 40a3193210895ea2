-- The names that a role lists, by the arms of the code; and which of them a name is.
-- Assumes nothing.
use Rattle.std.specs.Prelude.{Option, None}
use mathlib.Core.Path.{◌≡◌, ◌∙◌}
use mathlib.Core.Bool.{Bool, true, false}
use mathlib.Core.List.{List, []}
use mathlib.Core.Logic.{◌⊎◌, inl, inr}
use Prim.Native.Nat.{ℕ, ◌<◌, ◌≤◌}
use borrow.Author.Tests.{ne_eqb, lt-ltb, le-ltb}
use Rattle.text_scan.specs.Bytes.{text}
use Rattle.text_facts.specs.Strings.{equal}
use Rattle.xml_values.specs.declared.Place.{Place}
use Rattle.xml_values.specs.Views.{plain_of}
use Rattle.xml_listed.specs.declared.Listed.{Listed}
use Rattle.xml_listed.specs.Listed.{listed_in}
use Rattle.xml_texts.specs.Texts.{text_place}
use Rattle.judge_paths.specs.Roles.{Root, Id, Code, Title, EffectiveTime, SetId, VersionNumber, OrganisationId, Telecom, OperationCode}
use Rattle.judge_paths.specs.Attributes.{is_role, listed_names}
use Rattle.judge_kept.specs.Kept.{Three, names_of, which_of, text_roles, text_kept, nothing_listed, listed_by, listed_kept}

abbrev names : List ℕ → List ℕ → List ℕ → Three
names x y z = record { x = x; y = y; z = z }

-- ---- which of three
module _ (name x y z : List ℕ) (a : Bool) (ea : a ≡ equal name x) where
  pub is_first : a ≡ true → 0 ≡ which_of name (names x y z)
  unfolding which_of
  is_first f = rw (← ea, f)

  module _ (f : a ≡ false) (b : Bool) (eb : b ≡ equal name y) where
    pub is_second : b ≡ true → 1 ≡ which_of name (names x y z)
    unfolding which_of
    is_second g = rw (← ea, f, ← eb, g)

    module _ (g : b ≡ false) (c : Bool) (ec : c ≡ equal name z) where
      pub is_third : c ≡ true → 2 ≡ which_of name (names x y z)
      unfolding which_of
      is_third h = rw (← ea, f, ← eb, g, ← ec, h)

      pub is_none : c ≡ false → 3 ≡ which_of name (names x y z)
      unfolding which_of
      is_none h = rw (← ea, f, ← eb, g, ← ec, h)

-- ---- the names of a role
abbrev Either : ℕ → ℕ → ℕ → Type 0
Either a b q = (q ≡ a) ⊎ (q ≡ b)

abbrev OneOf3 : ℕ → ℕ → ℕ → ℕ → Type 0
OneOf3 a b c q = (q ≡ a) ⊎ ((q ≡ b) ⊎ (q ≡ c))

abbrev OneOf5 : ℕ → ℕ → ℕ → ℕ → ℕ → ℕ → Type 0
OneOf5 a b c d e q = (q ≡ a) ⊎ ((q ≡ b) ⊎ ((q ≡ c) ⊎ ((q ≡ d) ⊎ (q ≡ e))))

module _ (q : ℕ) where
  at_root : q ≡ Root → names_of q ≡ names (text "xmlns") (text "xmlns:xsi") (text "xsi:schemaLocation")
  unfolding listed_names
  at_root e = rw e

  at_id : Either Id OrganisationId q → names_of q ≡ names (text "root") (text "extension") []
  unfolding listed_names
  at_id (inl e) = rw e
  at_id (inr e) = rw e

  at_set_id : q ≡ SetId → names_of q ≡ names (text "root") [] []
  unfolding listed_names
  at_set_id e = rw e

  at_code : Either Code OperationCode q → names_of q ≡ names (text "code") (text "codeSystem") (text "displayName")
  unfolding listed_names
  at_code (inl e) = rw e
  at_code (inr e) = rw e

  at_value : OneOf3 EffectiveTime VersionNumber Telecom q → names_of q ≡ names (text "value") [] []
  unfolding listed_names
  at_value (inl e) = rw e
  at_value (inr (inl e)) = rw e
  at_value (inr (inr e)) = rw e

  at_title : q ≡ Title → names_of q ≡ names (text "mediaType") [] []
  unfolding listed_names
  at_title e = rw e

  at_other : (q ≡ Root → ⊥) → (Either Id OrganisationId q → ⊥) → (q ≡ SetId → ⊥) → (Either Code OperationCode q → ⊥) → (OneOf3 EffectiveTime VersionNumber Telecom q → ⊥) → (q ≡ Title → ⊥) → names_of q ≡ names [] [] []
  unfolding listed_names
  at_other a b c u v w =
      rw
      (ne_eqb q Root a, ne_eqb q Id (λ e. b (inl e)), ne_eqb q OrganisationId (λ e. b (inr e)), ne_eqb q SetId c, ne_eqb q Code (λ e. u (inl e)), ne_eqb q OperationCode (λ e. u (inr e)), ne_eqb q EffectiveTime (λ e. v (inl e)), ne_eqb q VersionNumber (λ e. v (inr (inl e))), ne_eqb q Telecom (λ e. v (inr (inr e))), ne_eqb q Title w)

  -- ---- which of them a name is
  module _ (name : List ℕ) (r : ℕ) where
    pub slot_root : q ≡ Root → r ≡ which_of name (names (text "xmlns") (text "xmlns:xsi") (text "xsi:schemaLocation")) → r ≡ which_of name (names_of q)
    slot_root e g = g ∙ rw (at_root e)

    pub slot_id : Either Id OrganisationId q → r ≡ which_of name (names (text "root") (text "extension") []) → r ≡ which_of name (names_of q)
    slot_id e g = g ∙ rw (at_id e)

    pub slot_set_id : q ≡ SetId → r ≡ which_of name (names (text "root") [] []) → r ≡ which_of name (names_of q)
    slot_set_id e g = g ∙ rw (at_set_id e)

    pub slot_code : Either Code OperationCode q → r ≡ which_of name (names (text "code") (text "codeSystem") (text "displayName")) → r ≡ which_of name (names_of q)
    slot_code e g = g ∙ rw (at_code e)

    pub slot_value : OneOf3 EffectiveTime VersionNumber Telecom q → r ≡ which_of name (names (text "value") [] []) → r ≡ which_of name (names_of q)
    slot_value e g = g ∙ rw (at_value e)

    pub slot_title : q ≡ Title → r ≡ which_of name (names (text "mediaType") [] []) → r ≡ which_of name (names_of q)
    slot_title e g = g ∙ rw (at_title e)

    pub slot_other : (q ≡ Root → ⊥) → (Either Id OrganisationId q → ⊥) → (q ≡ SetId → ⊥) → (Either Code OperationCode q → ⊥) → (OneOf3 EffectiveTime VersionNumber Telecom q → ⊥) → (q ≡ Title → ⊥) → r ≡ which_of name (names [] [] []) → r ≡ which_of name (names_of q)
    slot_other a b c u v w g = g ∙ rw (at_other a b c u v w)

  -- ---- what they say
  module _ (s : List ℕ) (f : ℕ) (r : Listed) where
    pub listed_root : q ≡ Root → r ≡ listed_in s f (text "xmlns") (text "xmlns:xsi") (text "xsi:schemaLocation") → r ≡ listed_by s f (names_of q)
    listed_root e g = g ∙ rw (at_root e)

    pub listed_id : Either Id OrganisationId q → r ≡ listed_in s f (text "root") (text "extension") [] → r ≡ listed_by s f (names_of q)
    listed_id e g = g ∙ rw (at_id e)

    pub listed_set_id : q ≡ SetId → r ≡ listed_in s f (text "root") [] [] → r ≡ listed_by s f (names_of q)
    listed_set_id e g = g ∙ rw (at_set_id e)

    pub listed_code : Either Code OperationCode q → r ≡ listed_in s f (text "code") (text "codeSystem") (text "displayName") → r ≡ listed_by s f (names_of q)
    listed_code e g = g ∙ rw (at_code e)

    pub listed_value : OneOf3 EffectiveTime VersionNumber Telecom q → r ≡ listed_in s f (text "value") [] [] → r ≡ listed_by s f (names_of q)
    listed_value e g = g ∙ rw (at_value e)

    pub listed_title : q ≡ Title → r ≡ listed_in s f (text "mediaType") [] [] → r ≡ listed_by s f (names_of q)
    listed_title e g = g ∙ rw (at_title e)

    pub listed_other : (q ≡ Root → ⊥) → (Either Id OrganisationId q → ⊥) → (q ≡ SetId → ⊥) → (Either Code OperationCode q → ⊥) → (OneOf3 EffectiveTime VersionNumber Telecom q → ⊥) → (q ≡ Title → ⊥) → r ≡ listed_in s f [] [] [] → r ≡ listed_by s f (names_of q)
    listed_other a b c u v w g = g ∙ rw (at_other a b c u v w)

    pub kept_known : 1 < q → r ≡ listed_by s f (names_of q) → r ≡ listed_kept s f q
    unfolding listed_kept
    kept_known h g = g ∙ rw (lt-ltb 1 q h)

  pub nothing_kept : (s : List ℕ) (f : ℕ) → q ≤ 1 → nothing_listed ≡ listed_kept s f q
  unfolding listed_kept
  nothing_kept s f h = rw (le-ltb 1 q h)

  -- ---- the texts
  module _ (s : List ℕ) (f : ℕ) (b : Bool) (e : b ≡ is_role q text_roles) where
    pub text_asked : b ≡ true → (p : Option Place) → p ≡ plain_of s (text_place s f) → p ≡ text_kept s f q
    unfolding text_kept
    text_asked h p g = g ∙ rw (← e, h)

    pub no_text : b ≡ false → None ≡ text_kept s f q
    unfolding text_kept
    no_text h = rw (← e, h)
