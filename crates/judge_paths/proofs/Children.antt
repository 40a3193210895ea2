-- The role of a child, by its parent: what the words of the code list is what the table lists.
-- Assumes nothing.
use mathlib.Core.Path.{◌≡◌, refl, sym, ◌∙◌, ap}
use mathlib.Core.Bool.{Bool, true, false}
use mathlib.Core.List.{List, [], ◌∷◌, ◌++◌}
use Prim.Native.Nat.{ℕ, ◌<◌, ◌≤◌}
use native.Mathlib.Omega.{arith}
use borrow.Author.Tests.{eq-eqb, ne_eqb, le-ltb, lt-ltb}
use lib.Dec.{eqb, ltb}
use Rattle.text_scan.specs.Choice.{pick, ◌or◌, ◌and◌, not}
use Rattle.text_scan.specs.Bytes.{text}
use Rattle.text_scan.proofs.Tests.{never, and_left, and_right}
use Rattle.text_facts.specs.Strings.{equal}
use Rattle.judge_paths.specs.declared.DocumentType.{DocumentType}
use Rattle.judge_paths.specs.declared.DocumentType.TheVariants.{Neither, Registration, Request}
use Rattle.judge_paths.specs.Roles.{Unknown, Unlisted, Root, Id, Code, Title, Br, EffectiveTime, SetId, VersionNumber, Author, Component, StructuredBody, Time, Entity1, Labeler, Entity2, Registrant, Entity3, Establishment, Entity4, Agent, OrganisationId, OrganisationName, ContactParty, ContactPerson, PersonName, Addr, StreetAddressLine, City, State, PostalCode, Country, Telecom, Performance, ActDefinition, OperationCode, RequestEntity, RequestLabeler}
use Rattle.judge_paths.specs.Paths.{Types, either, KnownRow, fits, upper_table, labeler_table, organisation_table, entity_table, contact_table, table, role_named, is_judged, child_role}
use Rattle.judge_paths.specs.Words.{worded_from, child_in}

-- ---- the words of each parent
module _ (t : DocumentType) (name : List ℕ) where
  pub root_words : child_in (text "id code title effectiveTime setId versionNumber author component ") (2 ∷ 4 ∷ 5 ∷ 13 ∷ 5 ∷ 13 ∷ 6 ∷ 9 ∷ []) (Id ∷ Code ∷ Title ∷ EffectiveTime ∷ SetId ∷ VersionNumber ∷ Author ∷ Component ∷ []) name ≡ role_named t Root name upper_table
  unfolding child_in worded_from role_named
  root_words = refl

  pub title_words : child_in (text "br ") (2 ∷ []) (Br ∷ []) name ≡ role_named t Title name upper_table
  unfolding child_in worded_from role_named
  title_words = refl

  pub component_words : child_in (text "structuredBody ") (14 ∷ []) (StructuredBody ∷ []) name ≡ role_named t Component name upper_table
  unfolding child_in worded_from role_named
  component_words = refl

  pub request_entity_words : child_in (text "representedOrganization ") (23 ∷ []) (RequestLabeler ∷ []) name ≡ role_named t RequestEntity name labeler_table
  unfolding child_in worded_from role_named
  request_entity_words = refl

  pub request_labeler_words : child_in (text "id name contactParty ") (2 ∷ 4 ∷ 12 ∷ []) (OrganisationId ∷ OrganisationName ∷ ContactParty ∷ []) name ≡ role_named t RequestLabeler name labeler_table
  unfolding child_in worded_from role_named
  request_labeler_words = refl

  pub entity_1_words : child_in (text "representedOrganization ") (23 ∷ []) (Labeler ∷ []) name ≡ role_named t Entity1 name labeler_table
  unfolding child_in worded_from role_named
  entity_1_words = refl

  pub labeler_words : child_in (text "id name assignedEntity ") (2 ∷ 4 ∷ 14 ∷ []) (OrganisationId ∷ OrganisationName ∷ Entity2 ∷ []) name ≡ role_named t Labeler name labeler_table
  unfolding child_in worded_from role_named
  labeler_words = refl

  pub registrant_words : child_in (text "id name contactParty assignedEntity ") (2 ∷ 4 ∷ 12 ∷ 14 ∷ []) (OrganisationId ∷ OrganisationName ∷ ContactParty ∷ Entity3 ∷ []) name ≡ role_named t Registrant name organisation_table
  unfolding child_in worded_from role_named
  registrant_words = refl

  pub establishment_words : child_in (text "id name contactParty assignedEntity addr ") (2 ∷ 4 ∷ 12 ∷ 14 ∷ 4 ∷ []) (OrganisationId ∷ OrganisationName ∷ ContactParty ∷ Entity4 ∷ Addr ∷ []) name ≡ role_named t Establishment name organisation_table
  unfolding child_in worded_from role_named
  establishment_words = refl

  pub agent_words : child_in (text "id name telecom ") (2 ∷ 4 ∷ 7 ∷ []) (OrganisationId ∷ OrganisationName ∷ Telecom ∷ []) name ≡ role_named t Agent name organisation_table
  unfolding child_in worded_from role_named
  agent_words = refl

  pub entity_2_words : child_in (text "assignedOrganization ") (20 ∷ []) (Registrant ∷ []) name ≡ role_named t Entity2 name entity_table
  unfolding child_in worded_from role_named
  entity_2_words = refl

  pub entity_3_words : child_in (text "assignedOrganization performance ") (20 ∷ 11 ∷ []) (Establishment ∷ Performance ∷ []) name ≡ role_named t Entity3 name entity_table
  unfolding child_in worded_from role_named
  entity_3_words = refl

  pub entity_4_words : child_in (text "assignedOrganization performance ") (20 ∷ 11 ∷ []) (Agent ∷ Performance ∷ []) name ≡ role_named t Entity4 name entity_table
  unfolding child_in worded_from role_named
  entity_4_words = refl

  pub performance_words : child_in (text "actDefinition ") (13 ∷ []) (ActDefinition ∷ []) name ≡ role_named t Performance name entity_table
  unfolding child_in worded_from role_named
  performance_words = refl

  pub act_definition_words : child_in (text "code ") (4 ∷ []) (OperationCode ∷ []) name ≡ role_named t ActDefinition name entity_table
  unfolding child_in worded_from role_named
  act_definition_words = refl

  pub contact_party_words : child_in (text "addr telecom contactPerson ") (4 ∷ 7 ∷ 13 ∷ []) (Addr ∷ Telecom ∷ ContactPerson ∷ []) name ≡ role_named t ContactParty name contact_table
  unfolding child_in worded_from role_named
  contact_party_words = refl

  pub contact_person_words : child_in (text "name ") (4 ∷ []) (PersonName ∷ []) name ≡ role_named t ContactPerson name contact_table
  unfolding child_in worded_from role_named
  contact_person_words = refl

  pub addr_words : child_in (text "streetAddressLine city state postalCode country ") (17 ∷ 4 ∷ 5 ∷ 10 ∷ 7 ∷ []) (StreetAddressLine ∷ City ∷ State ∷ PostalCode ∷ Country ∷ []) name ≡ role_named t Addr name contact_table
  unfolding child_in worded_from role_named
  addr_words = refl

-- those of author, by the type
module _ (name : List ℕ) where
  pub author_registration : child_in (text "time assignedEntity ") (4 ∷ 14 ∷ []) (Time ∷ Entity1 ∷ []) name ≡ role_named Registration Author name upper_table
  unfolding child_in worded_from role_named
  author_registration = refl

  pub author_request : child_in (text "time assignedEntity ") (4 ∷ 14 ∷ []) (Time ∷ RequestEntity ∷ []) name ≡ role_named Request Author name upper_table
  unfolding child_in worded_from role_named
  author_request = refl

  pub author_neither : (t : DocumentType) → t ≡ Neither → Unlisted ≡ role_named t Author name upper_table
  unfolding role_named
  author_neither t e = rw e

-- the type, and the parent, that a branch has
pub of_type : (t k : DocumentType) → t ≡ k → (p : ℕ) (name : List ℕ) (xs : List KnownRow) (r x : ℕ) → r ≡ x → x ≡ role_named k p name xs → r ≡ role_named t p name xs
of_type t k e p name xs r x f g = f ∙ g ∙ rw e

pub of_parent : (p k : ℕ) → p ≡ k → (t : DocumentType) (name : List ℕ) (xs : List KnownRow) (r x : ℕ) → r ≡ x → x ≡ role_named t k name xs → r ≡ role_named t p name xs
of_parent p k e t name xs r x f g = f ∙ g ∙ rw e

-- ---- a parent of no row
pub no_upper : (t : DocumentType) (p : ℕ) (name : List ℕ) → (p ≡ Root → ⊥) → (p ≡ Title → ⊥) → (p ≡ Component → ⊥) → (p ≡ Author → ⊥) → Unlisted ≡ role_named t p name upper_table
unfolding role_named
no_upper t p name h0 h1 h2 h3 = rw (ne_eqb Root p (λ e. h0 (sym e)), ne_eqb Title p (λ e. h1 (sym e)), ne_eqb Component p (λ e. h2 (sym e)), ne_eqb Author p (λ e. h3 (sym e)))

pub no_labeler : (t : DocumentType) (p : ℕ) (name : List ℕ) → (p ≡ RequestEntity → ⊥) → (p ≡ RequestLabeler → ⊥) → (p ≡ Entity1 → ⊥) → (p ≡ Labeler → ⊥) → Unlisted ≡ role_named t p name labeler_table
unfolding role_named
no_labeler t p name h0 h1 h2 h3 = rw (ne_eqb RequestEntity p (λ e. h0 (sym e)), ne_eqb RequestLabeler p (λ e. h1 (sym e)), ne_eqb Entity1 p (λ e. h2 (sym e)), ne_eqb Labeler p (λ e. h3 (sym e)))

pub no_organisation : (t : DocumentType) (p : ℕ) (name : List ℕ) → (p ≡ Registrant → ⊥) → (p ≡ Establishment → ⊥) → (p ≡ Agent → ⊥) → Unlisted ≡ role_named t p name organisation_table
unfolding role_named
no_organisation t p name h0 h1 h2 = rw (ne_eqb Registrant p (λ e. h0 (sym e)), ne_eqb Establishment p (λ e. h1 (sym e)), ne_eqb Agent p (λ e. h2 (sym e)))

pub no_entity : (t : DocumentType) (p : ℕ) (name : List ℕ) → (p ≡ Entity2 → ⊥) → (p ≡ Entity3 → ⊥) → (p ≡ Entity4 → ⊥) → (p ≡ Performance → ⊥) → (p ≡ ActDefinition → ⊥) → Unlisted ≡ role_named t p name entity_table
unfolding role_named
no_entity t p name h0 h1 h2 h3 h4 = rw (ne_eqb Entity2 p (λ e. h0 (sym e)), ne_eqb Entity3 p (λ e. h1 (sym e)), ne_eqb Entity4 p (λ e. h2 (sym e)), ne_eqb Performance p (λ e. h3 (sym e)), ne_eqb ActDefinition p (λ e. h4 (sym e)))

pub no_contact : (t : DocumentType) (p : ℕ) (name : List ℕ) → (p ≡ ContactParty → ⊥) → (p ≡ ContactPerson → ⊥) → (p ≡ Addr → ⊥) → Unlisted ≡ role_named t p name contact_table
unfolding role_named
no_contact t p name h0 h1 h2 = rw (ne_eqb ContactParty p (λ e. h0 (sym e)), ne_eqb ContactPerson p (λ e. h1 (sym e)), ne_eqb Addr p (λ e. h2 (sym e)))

-- ---- tables one after the other
-- a row says Unlisted of none
abbrev all_listed : List KnownRow → Bool
all_listed [] = true
all_listed (x ∷ xs) = not (eqb x.child Unlisted) and all_listed xs

named_both : (t : DocumentType) (p : ℕ) (name : List ℕ) (xs ys : List KnownRow) → all_listed xs ≡ true → role_named t p name (xs ++ ys) ≡ pick (eqb (role_named t p name xs) Unlisted) (role_named t p name ys) (role_named t p name xs)
unfolding role_named
named_both t p name [] ys e = refl
named_both t p name (x ∷ xs) ys e =
    go (eqb x.parent p and fits x.types t and equal name x.name) (eqb x.child Unlisted) refl (and_left (not (eqb x.child Unlisted)) (all_listed xs) e) (named_both t p name xs ys (and_right (not (eqb x.child Unlisted)) (all_listed xs) e))
  where
    go : (b c : Bool) → eqb x.child Unlisted ≡ c → not c ≡ true → role_named t p name (xs ++ ys) ≡ pick (eqb (role_named t p name xs) Unlisted) (role_named t p name ys) (role_named t p name xs)
        → pick b x.child (role_named t p name (xs ++ ys)) ≡ pick (eqb (pick b x.child (role_named t p name xs)) Unlisted) (role_named t p name ys) (pick b x.child (role_named t p name xs))
    go true true f g h = never (sym g)
    go true false f g h = rw f
    go false c f g h = h

-- the type makes no difference to all but the upper table
any_contact : (t : DocumentType) (p : ℕ) (name : List ℕ) → role_named Neither p name contact_table ≡ role_named t p name contact_table
unfolding role_named
any_contact t p name = refl

any_entity : (t : DocumentType) (p : ℕ) (name : List ℕ) → role_named Neither p name entity_table ≡ role_named t p name entity_table
unfolding role_named
any_entity t p name = refl

any_organisation : (t : DocumentType) (p : ℕ) (name : List ℕ) → role_named Neither p name organisation_table ≡ role_named t p name organisation_table
unfolding role_named
any_organisation t p name = refl

any_labeler : (t : DocumentType) (p : ℕ) (name : List ℕ) → role_named Neither p name labeler_table ≡ role_named t p name labeler_table
unfolding role_named
any_labeler t p name = refl

-- what the first table of two lists, or what the second does
module _ (t : DocumentType) (p : ℕ) (name : List ℕ) (xs ys : List KnownRow) (l : all_listed xs ≡ true) (a : ℕ) (e : a ≡ role_named t p name xs) where
  first_lists : (a ≡ Unlisted → ⊥) → a ≡ role_named t p name (xs ++ ys)
  first_lists h = sym (named_both t p name xs ys l ∙ rw (← e, ne_eqb a Unlisted h))

  second_lists : a ≡ Unlisted → (r : ℕ) → r ≡ role_named t p name ys → r ≡ role_named t p name (xs ++ ys)
  second_lists h r f = sym (named_both t p name xs ys l ∙ rw (← e, eq-eqb a Unlisted h, ← f))

module _ (t : DocumentType) (p : ℕ) (name : List ℕ) (a : ℕ) (e : a ≡ role_named Neither p name contact_table) where
  pub lists_contact : (a ≡ Unlisted → ⊥) → a ≡ role_named t p name table
  lists_contact h = first_lists t p name contact_table (entity_table ++ organisation_table ++ labeler_table ++ upper_table) refl a (e ∙ any_contact t p name) h

  module _ (f : a ≡ Unlisted) (b : ℕ) (g : b ≡ role_named Neither p name entity_table) where
    past_contact : (r : ℕ) → r ≡ role_named t p name (entity_table ++ organisation_table ++ labeler_table ++ upper_table) → r ≡ role_named t p name table
    past_contact = second_lists t p name contact_table (entity_table ++ organisation_table ++ labeler_table ++ upper_table) refl a (e ∙ any_contact t p name) f

    pub lists_entity : (b ≡ Unlisted → ⊥) → b ≡ role_named t p name table
    lists_entity h = past_contact b (first_lists t p name entity_table (organisation_table ++ labeler_table ++ upper_table) refl b (g ∙ any_entity t p name) h)

    module _ (h : b ≡ Unlisted) (c : ℕ) (i : c ≡ role_named Neither p name organisation_table) where
      past_entity : (r : ℕ) → r ≡ role_named t p name (organisation_table ++ labeler_table ++ upper_table) → r ≡ role_named t p name table
      past_entity r q = past_contact r (second_lists t p name entity_table (organisation_table ++ labeler_table ++ upper_table) refl b (g ∙ any_entity t p name) h r q)

      pub lists_organisation : (c ≡ Unlisted → ⊥) → c ≡ role_named t p name table
      lists_organisation j = past_entity c (first_lists t p name organisation_table (labeler_table ++ upper_table) refl c (i ∙ any_organisation t p name) j)

      module _ (j : c ≡ Unlisted) (d : ℕ) (k : d ≡ role_named Neither p name labeler_table) where
        past_organisation : (r : ℕ) → r ≡ role_named t p name (labeler_table ++ upper_table) → r ≡ role_named t p name table
        past_organisation r q = past_entity r (second_lists t p name organisation_table (labeler_table ++ upper_table) refl c (i ∙ any_organisation t p name) j r q)

        pub lists_labeler : (d ≡ Unlisted → ⊥) → d ≡ role_named t p name table
        lists_labeler m = past_organisation d (first_lists t p name labeler_table upper_table refl d (k ∙ any_labeler t p name) m)

        pub lists_upper : d ≡ Unlisted → (r : ℕ) → r ≡ role_named t p name upper_table → r ≡ role_named t p name table
        lists_upper m r q = past_organisation r (second_lists t p name labeler_table upper_table refl d (k ∙ any_labeler t p name) m r q)

-- ---- whether the children are judged
module _ (t : DocumentType) (p : ℕ) where
  pub not_known : p ≤ 1 → false ≡ is_judged t p
  not_known h = rw (le-ltb 1 p h)

  module _ (h : 1 < p) where
    pub not_author : (p ≡ Author → ⊥) → true ≡ is_judged t p
    not_author e = rw (lt-ltb 1 p h, ne_eqb p Author e)

    module _ (e : p ≡ Author) (k : DocumentType) (f : t ≡ k) where
      pub in_typed : (r : Bool) → r ≡ fits either k → r ≡ is_judged t p
      in_typed r g = g ∙ rw (e, f)

module _ (t : DocumentType) (p : ℕ) (name : List ℕ) (b : Bool) (e : b ≡ is_judged t p) where
  pub child_named : b ≡ true → (r : ℕ) → r ≡ role_named t p name table → r ≡ child_role t p name
  unfolding child_role
  child_named f r g = g ∙ rw (← e, f)

  pub child_not_judged : b ≡ false → Unknown ≡ child_role t p name
  unfolding child_role
  child_not_judged f = rw (← e, f)
