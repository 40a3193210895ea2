-- A procedure demands nothing of an element at which it cannot be found: one law for each, and one for all.
-- Assumes nothing.
use mathlib.Core.Path.{◌≡◌, refl}
use mathlib.Core.Bool.{Bool, true, false}
use mathlib.Core.List.{List, [], ◌∷◌}
use Prim.Native.Nat.{ℕ}
use lib.Dec.{eqb}
use Rattle.text_scan.specs.Choice.{pick}
use Rattle.text_scan.proofs.Tests.{or_left, or_right}
use Rattle.judge_paths.specs.Roles.{Addr, Agent, Code, ContactParty, EffectiveTime, Entity1, Entity2, Entity3, Entity4, Establishment, Id, Labeler, OperationCode, OrganisationId, OrganisationName, Registrant, RequestEntity, RequestLabeler, Root, SetId, Telecom, Unlisted, VersionNumber}
use Rattle.judge_paths.specs.Roles.{is_known_role}
use Rattle.judge_paths.specs.Attributes.{is_role}
use Rattle.judge_draft.specs.declared.Demand.TheVariants.{Nothing}
use Rattle.judge_draft.specs.Demands.{broken_if}
use Rattle.judge_draft.specs.Drafts.{Draft, role, is, is_known}
use Rattle.judge_header.specs.declared.Header.{Header}
use Rattle.judge_listed.specs.Listed.{breaks1, breaks2, breaks3, breaks4}
use Rattle.judge_root.specs.Root.{one_at, one_of_root, breaks5, demand6, breaks7, demand8, breaks9, breaks10, breaks11, demand12, breaks13}
use Rattle.judge_organisations.specs.Organisations.{organisation_in, is_organisation, is_one_name, breaks14, breaks15, breaks16, breaks17, demand18}
use Rattle.judge_keys.specs.Keys.{is_labeler_id, is_registrant_id, breaks19, breaks20, demand21, demand22}
use Rattle.judge_addresses.specs.Addresses.{breaks24, breaks25}
use Rattle.judge_contacts.specs.Contacts.{has_contact, has_telecoms, breaks23, breaks26, breaks27, breaks28, breaks29, breaks30}
use Rattle.judge_operations.specs.Operations.{has_establishment, breaks33, demand34, breaks37, breaks38}
use Rattle.judge_registrations.specs.Registrations.{breaks31, breaks32, breaks35, breaks36}
use Rattle.judge_procedures.specs.Procedures.{Procedure, procedures, with_number, demand_in, demand_of, found_at}

-- the element's role is none of these
abbrev NoneOf : ℕ → List ℕ → Type 0
NoneOf r [] = Unit {0}
NoneOf r (q ∷ qs) = (eqb r q ≡ false) × NoneOf r qs

none_of : (r : ℕ) (qs : List ℕ) → is_role r qs ≡ false → NoneOf r qs
none_of r [] e = tt
none_of r (q ∷ qs) e = (or_left (eqb r q) (is_role r qs) e, none_of r qs (or_right (eqb r q) (is_role r qs) e))

module _ (d : Draft) (h : Header) (n : ℕ) where
  quiet_1 : is_role (role d n) (Root ∷ []) ≡ false → broken_if (breaks1 d n) ≡ Nothing
  unfolding is breaks1
  quiet_1 e = rw (none_of (role d n) (Root ∷ []) e).0

  quiet_2 : is_role (role d n) (Unlisted ∷ []) ≡ false → broken_if (breaks2 d n) ≡ Nothing
  unfolding is breaks2
  quiet_2 e = rw (none_of (role d n) (Unlisted ∷ []) e).0

  quiet_3 : is_known_role (role d n) ≡ false → broken_if (breaks3 d n) ≡ Nothing
  unfolding is_known breaks3
  quiet_3 e = rw e

  quiet_4 : is_known_role (role d n) ≡ false → broken_if (breaks4 d n) ≡ Nothing
  unfolding is_known breaks4
  quiet_4 e = rw e

  quiet_5 : is_role (role d n) (Root ∷ Id ∷ []) ≡ false → broken_if (breaks5 d h n) ≡ Nothing
  unfolding is breaks5 one_of_root one_at
  quiet_5 e =
      let a = none_of (role d n) (Root ∷ Id ∷ []) e in
      rw (a.0, a.1.0)

  quiet_6 : is_role (role d n) (Id ∷ []) ≡ false → demand6 d h n ≡ Nothing
  unfolding is demand6
  quiet_6 e = rw (none_of (role d n) (Id ∷ []) e).0

  quiet_7 : is_role (role d n) (Root ∷ Code ∷ []) ≡ false → broken_if (breaks7 d h n) ≡ Nothing
  unfolding is breaks7 one_of_root one_at
  quiet_7 e =
      let a = none_of (role d n) (Root ∷ Code ∷ []) e in
      rw (a.0, a.1.0)

  quiet_8 : is_role (role d n) (Code ∷ []) ≡ false → demand8 d h n ≡ Nothing
  unfolding is demand8
  quiet_8 e = rw (none_of (role d n) (Code ∷ []) e).0

  quiet_9 : is_role (role d n) (Root ∷ EffectiveTime ∷ []) ≡ false → broken_if (breaks9 d h n) ≡ Nothing
  unfolding is breaks9 one_of_root one_at
  quiet_9 e =
      let a = none_of (role d n) (Root ∷ EffectiveTime ∷ []) e in
      rw (a.0, a.1.0)

  quiet_10 : is_role (role d n) (Root ∷ SetId ∷ []) ≡ false → broken_if (breaks10 d h n) ≡ Nothing
  unfolding is breaks10 one_of_root one_at
  quiet_10 e =
      let a = none_of (role d n) (Root ∷ SetId ∷ []) e in
      rw (a.0, a.1.0)

  quiet_11 : is_role (role d n) (Root ∷ VersionNumber ∷ []) ≡ false → broken_if (breaks11 d h n) ≡ Nothing
  unfolding is breaks11 one_of_root one_at
  quiet_11 e =
      let a = none_of (role d n) (Root ∷ VersionNumber ∷ []) e in
      rw (a.0, a.1.0)

  quiet_12 : is_role (role d n) (VersionNumber ∷ []) ≡ false → demand12 d h n ≡ Nothing
  unfolding is demand12
  quiet_12 e = rw (none_of (role d n) (VersionNumber ∷ []) e).0

  quiet_13 : is_role (role d n) (Root ∷ []) ≡ false → broken_if (breaks13 d h n) ≡ Nothing
  unfolding is breaks13
  quiet_13 e = rw (none_of (role d n) (Root ∷ []) e).0

  quiet_14 : is_role (role d n) (RequestEntity ∷ Entity1 ∷ Entity2 ∷ Entity3 ∷ Entity4 ∷ []) ≡ false → broken_if (breaks14 d n) ≡ Nothing
  unfolding is breaks14 organisation_in
  quiet_14 e =
      let a = none_of (role d n) (RequestEntity ∷ Entity1 ∷ Entity2 ∷ Entity3 ∷ Entity4 ∷ []) e in
      rw (a.0, a.1.0, a.1.1.0, a.1.1.1.0, a.1.1.1.1.0)

  quiet_15 : is_role (role d n) (RequestLabeler ∷ Registrant ∷ Establishment ∷ Agent ∷ []) ≡ false → broken_if (breaks15 d n) ≡ Nothing
  unfolding is breaks15 is_organisation
  quiet_15 e =
      let a = none_of (role d n) (RequestLabeler ∷ Registrant ∷ Establishment ∷ Agent ∷ []) e in
      rw (a.0, a.1.0, a.1.1.0, a.1.1.1.0)

  quiet_16 : is_role (role d n) (RequestLabeler ∷ Registrant ∷ Establishment ∷ Agent ∷ []) ≡ false → broken_if (breaks16 d n) ≡ Nothing
  unfolding is breaks16 is_organisation
  quiet_16 e =
      let a = none_of (role d n) (RequestLabeler ∷ Registrant ∷ Establishment ∷ Agent ∷ []) e in
      rw (a.0, a.1.0, a.1.1.0, a.1.1.1.0)

  quiet_17 : is_role (role d n) (RequestLabeler ∷ Registrant ∷ Establishment ∷ Agent ∷ OrganisationName ∷ []) ≡ false → broken_if (breaks17 d n) ≡ Nothing
  unfolding is breaks17 is_organisation is_one_name
  quiet_17 e =
      let a = none_of (role d n) (RequestLabeler ∷ Registrant ∷ Establishment ∷ Agent ∷ OrganisationName ∷ []) e in
      rw (a.0, a.1.0, a.1.1.0, a.1.1.1.0, a.1.1.1.1.0)

  quiet_18 : is_role (role d n) (OrganisationName ∷ []) ≡ false → demand18 d n ≡ Nothing
  unfolding is demand18 is_one_name
  quiet_18 e = rw (none_of (role d n) (OrganisationName ∷ []) e).0

  quiet_19 : is_role (role d n) (RequestLabeler ∷ []) ≡ false → broken_if (breaks19 d n) ≡ Nothing
  unfolding is breaks19
  quiet_19 e = rw (none_of (role d n) (RequestLabeler ∷ []) e).0

  quiet_20 : is_role (role d n) (OrganisationId ∷ []) ≡ false → broken_if (breaks20 d n) ≡ Nothing
  unfolding is breaks20 is_labeler_id
  quiet_20 e = rw (none_of (role d n) (OrganisationId ∷ []) e).0

  quiet_21 : is_role (role d n) (OrganisationId ∷ []) ≡ false → demand21 d h n ≡ Nothing
  unfolding is demand21 is_labeler_id is_registrant_id
  quiet_21 e = rw (none_of (role d n) (OrganisationId ∷ []) e).0

  quiet_22 : is_role (role d n) (OrganisationId ∷ []) ≡ false → demand22 d h n ≡ Nothing
  unfolding is demand22 is_labeler_id
  quiet_22 e = rw (none_of (role d n) (OrganisationId ∷ []) e).0

  quiet_23 : is_role (role d n) (RequestLabeler ∷ Registrant ∷ Establishment ∷ []) ≡ false → broken_if (breaks23 d n) ≡ Nothing
  unfolding is breaks23 has_contact
  quiet_23 e =
      let a = none_of (role d n) (RequestLabeler ∷ Registrant ∷ Establishment ∷ []) e in
      rw (a.0, a.1.0, a.1.1.0)

  quiet_24 : is_role (role d n) (ContactParty ∷ Establishment ∷ []) ≡ false → broken_if (breaks24 d n) ≡ Nothing
  unfolding is breaks24
  quiet_24 e =
      let a = none_of (role d n) (ContactParty ∷ Establishment ∷ []) e in
      rw (a.0, a.1.0)

  quiet_25 : is_role (role d n) (Addr ∷ []) ≡ false → broken_if (breaks25 d n) ≡ Nothing
  unfolding is breaks25
  quiet_25 e = rw (none_of (role d n) (Addr ∷ []) e).0

  quiet_26 : is_role (role d n) (ContactParty ∷ Agent ∷ []) ≡ false → broken_if (breaks26 d n) ≡ Nothing
  unfolding is breaks26 has_telecoms
  quiet_26 e =
      let a = none_of (role d n) (ContactParty ∷ Agent ∷ []) e in
      rw (a.0, a.1.0)

  quiet_27 : is_role (role d n) (ContactParty ∷ Agent ∷ []) ≡ false → broken_if (breaks27 d n) ≡ Nothing
  unfolding is breaks27 has_telecoms
  quiet_27 e =
      let a = none_of (role d n) (ContactParty ∷ Agent ∷ []) e in
      rw (a.0, a.1.0)

  quiet_28 : is_role (role d n) (ContactParty ∷ Agent ∷ []) ≡ false → broken_if (breaks28 d n) ≡ Nothing
  unfolding is breaks28 has_telecoms
  quiet_28 e =
      let a = none_of (role d n) (ContactParty ∷ Agent ∷ []) e in
      rw (a.0, a.1.0)

  quiet_29 : is_role (role d n) (Telecom ∷ []) ≡ false → broken_if (breaks29 d n) ≡ Nothing
  unfolding is breaks29
  quiet_29 e = rw (none_of (role d n) (Telecom ∷ []) e).0

  quiet_30 : is_role (role d n) (ContactParty ∷ []) ≡ false → broken_if (breaks30 d n) ≡ Nothing
  unfolding is breaks30
  quiet_30 e = rw (none_of (role d n) (ContactParty ∷ []) e).0

  quiet_31 : is_role (role d n) (Labeler ∷ []) ≡ false → broken_if (breaks31 d n) ≡ Nothing
  unfolding is breaks31
  quiet_31 e = rw (none_of (role d n) (Labeler ∷ []) e).0

  quiet_32 : is_role (role d n) (Registrant ∷ []) ≡ false → broken_if (breaks32 d n) ≡ Nothing
  unfolding is breaks32
  quiet_32 e = rw (none_of (role d n) (Registrant ∷ []) e).0

  quiet_33 : is_role (role d n) (Entity4 ∷ []) ≡ false → broken_if (breaks33 d n) ≡ Nothing
  unfolding is breaks33
  quiet_33 e = rw (none_of (role d n) (Entity4 ∷ []) e).0

  quiet_34 : is_role (role d n) (OperationCode ∷ []) ≡ false → demand34 d n ≡ Nothing
  unfolding is demand34
  quiet_34 e = rw (none_of (role d n) (OperationCode ∷ []) e).0

  quiet_35 : is_role (role d n) (Establishment ∷ []) ≡ false → broken_if (breaks35 d n) ≡ Nothing
  unfolding is breaks35
  quiet_35 e = rw (none_of (role d n) (Establishment ∷ []) e).0

  quiet_36 : is_role (role d n) (Establishment ∷ []) ≡ false → broken_if (breaks36 d n) ≡ Nothing
  unfolding is breaks36
  quiet_36 e = rw (none_of (role d n) (Establishment ∷ []) e).0

  quiet_37 : is_role (role d n) (Entity3 ∷ []) ≡ false → broken_if (breaks37 d n) ≡ Nothing
  unfolding is breaks37 has_establishment
  quiet_37 e = rw (none_of (role d n) (Entity3 ∷ []) e).0

  quiet_38 : is_role (role d n) (OperationCode ∷ []) ≡ false → broken_if (breaks38 d n) ≡ Nothing
  unfolding is breaks38
  quiet_38 e = rw (none_of (role d n) (OperationCode ∷ []) e).0

  -- all of them
  abbrev Quiet : List Procedure → Type 0
  Quiet [] = Unit {0}
  Quiet (x ∷ xs) = (x.place (role d n) ≡ false → x.asks d h n ≡ Nothing) × Quiet xs

  quiet : Quiet procedures
  quiet = (quiet_1, (quiet_2, (quiet_3, (quiet_4, (quiet_5, (quiet_6, (quiet_7, (quiet_8, (quiet_9, (quiet_10, (quiet_11, (quiet_12, (quiet_13, (quiet_14, (quiet_15, (quiet_16, (quiet_17, (quiet_18, (quiet_19, (quiet_20, (quiet_21, (quiet_22, (quiet_23, (quiet_24, (quiet_25, (quiet_26, (quiet_27, (quiet_28, (quiet_29, (quiet_30, (quiet_31, (quiet_32, (quiet_33, (quiet_34, (quiet_35, (quiet_36, (quiet_37, (quiet_38, tt))))))))))))))))))))))))))))))))))))))

  by_number : (p : ℕ) (xs : List Procedure) → Quiet xs → (with_number p xs).place (role d n) ≡ false → (with_number p xs).asks d h n ≡ Nothing
  unfolding with_number
  by_number p [] q e = refl
  by_number p (x ∷ xs) q e = go (eqb p x.number) (by_number p xs q.1) e
    where
      go : (t : Bool) → ((with_number p xs).place (role d n) ≡ false → (with_number p xs).asks d h n ≡ Nothing) → (pick t x (with_number p xs)).place (role d n) ≡ false → (pick t x (with_number p xs)).asks d h n ≡ Nothing
      go true rest f = q.0 f
      go false rest f = rest f

  -- a procedure that cannot be found at an element of n's role demands nothing of n
  pub elsewhere : (p : ℕ) → found_at p (role d n) ≡ false → demand_of d h p n ≡ Nothing
  unfolding found_at demand_of demand_in
  elsewhere p e = by_number p procedures quiet e
