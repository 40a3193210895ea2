-- The procedures, one row for each: its number, the roles of the elements at which it can be found, and what it demands of an element, from the
-- document alone.
-- Assumes nothing.
use Rattle.std.specs.Prelude.{ℕ, zero, suc, ◌+◌, Bool, true, false, List, [], ◌∷◌, ◌++◌, eqb}
use Rattle.text_scan.specs.Choice.{pick}
use Rattle.list_findings.specs.Findings.{last_procedure}
use Rattle.judge_paths.specs.Roles.{Unlisted, Root, Id, Code, EffectiveTime, SetId, VersionNumber, Entity1, Labeler, Entity2, Registrant, Entity3, Establishment, Entity4, Agent, OrganisationId, OrganisationName, ContactParty, Addr, Telecom, OperationCode, RequestEntity, RequestLabeler, is_known_role}
use Rattle.judge_paths.specs.Attributes.{is_role}
use Rattle.judge_draft.specs.declared.Demand.{Demand}
use Rattle.judge_draft.specs.declared.Demand.TheVariants.{Nothing}
use Rattle.judge_draft.specs.Drafts.{Draft}
use Rattle.judge_draft.specs.Demands.{broken_if}
use Rattle.judge_header.specs.declared.Header.{Header}
use Rattle.judge_listed.specs.Listed.{breaks1, breaks2, breaks3, breaks4}
use Rattle.judge_root.specs.Root.{breaks5, demand6, breaks7, demand8, breaks9, breaks10, breaks11, demand12, breaks13}
use Rattle.judge_organisations.specs.Organisations.{breaks14, breaks15, breaks16, breaks17, demand18}
use Rattle.judge_keys.specs.Keys.{breaks19, breaks20, demand21, demand22}
use Rattle.judge_addresses.specs.Addresses.{breaks24, breaks25}
use Rattle.judge_contacts.specs.Contacts.{breaks23, breaks26, breaks27, breaks28, breaks29, breaks30}
use Rattle.judge_operations.specs.Operations.{breaks33, demand34, breaks37, breaks38}
use Rattle.judge_registrations.specs.Registrations.{breaks31, breaks32, breaks35, breaks36}

pub record Procedure : Type 0 where
  pub number : ℕ
  pub place : ℕ → Bool
  pub asks : Draft → Header → ℕ → Demand

abbrev pub procedure : ℕ → (ℕ → Bool) → (Draft → Header → ℕ → Demand) → Procedure
procedure number place asks = record { number = number; place = place; asks = asks }

-- at elements of these roles
abbrev pub at : List ℕ → ℕ → Bool
at roles r = is_role r roles

-- broken where a test says so: of the header and an element, or of an element alone
abbrev pub of_header : (Draft → Header → ℕ → Bool) → Draft → Header → ℕ → Demand
of_header b d h n = broken_if (b d h n)

abbrev pub of_element : (Draft → ℕ → Bool) → Draft → Header → ℕ → Demand
of_element b d h n = broken_if (b d n)

-- a row of a table that is asked for by an element alone
abbrev pub row_of : (Draft → ℕ → Demand) → Draft → Header → ℕ → Demand
row_of f d h n = f d n

-- ---- what is known
abbrev pub listed_procedures : List Procedure
listed_procedures =
    -- the root is named document and declares the three names of the schema
    procedure 1 (at (Root ∷ [])) (of_element breaks1)
    -- every element in a known one is listed there
    ∷ procedure 2 (at (Unlisted ∷ [])) (of_element breaks2)
    -- a known element has listed attributes only
    ∷ procedure 3 is_known_role (of_element breaks3)
    -- a code and an extension have no space
    ∷ procedure 4 is_known_role (of_element breaks4)
    ∷ []

-- ---- the header
abbrev pub header_procedures : List Procedure
header_procedures =
    -- one id, its root a GUID; which no row of the history has as document id
    procedure 5 (at (Root ∷ Id ∷ [])) (of_header breaks5)
    ∷ procedure 6 (at (Id ∷ [])) demand6
    -- one code, of one of the two types; which the code list has with its display name
    ∷ procedure 7 (at (Root ∷ Code ∷ [])) (of_header breaks7)
    ∷ procedure 8 (at (Code ∷ [])) demand8
    -- one effectiveTime, a day
    ∷ procedure 9 (at (Root ∷ EffectiveTime ∷ [])) (of_header breaks9)
    -- one setId, its root a GUID; one versionNumber; above all versions of the set id in the history
    ∷ procedure 10 (at (Root ∷ SetId ∷ [])) (of_header breaks10)
    ∷ procedure 11 (at (Root ∷ VersionNumber ∷ [])) (of_header breaks11)
    ∷ procedure 12 (at (VersionNumber ∷ [])) demand12
    -- a document of a type has one labeler
    ∷ procedure 13 (at (Root ∷ [])) (of_header breaks13)
    ∷ []

-- ---- organisations
abbrev pub organisation_procedures : List Procedure
organisation_procedures =
    -- each assignedEntity has one organisation
    procedure 14 (at (RequestEntity ∷ Entity1 ∷ Entity2 ∷ Entity3 ∷ Entity4 ∷ [])) (of_element breaks14)
    -- as many ids as the organisation has; one of them its DUNS number
    ∷ procedure 15 (at (RequestLabeler ∷ Registrant ∷ Establishment ∷ Agent ∷ [])) (of_element breaks15)
    ∷ procedure 16 (at (RequestLabeler ∷ Registrant ∷ Establishment ∷ Agent ∷ [])) (of_element breaks16)
    -- one name; the register has the two
    ∷ procedure 17 (at (RequestLabeler ∷ Registrant ∷ Establishment ∷ Agent ∷ OrganisationName ∷ [])) (of_element breaks17)
    ∷ procedure 18 (at (OrganisationName ∷ [])) (row_of demand18)
    -- one labeler code in a request; in its form
    ∷ procedure 19 (at (RequestLabeler ∷ [])) (of_element breaks19)
    ∷ procedure 20 (at (OrganisationId ∷ [])) (of_element breaks20)
    -- no row of this type has the key under another set id; none of this set id has another labeler code
    ∷ procedure 21 (at (OrganisationId ∷ [])) demand21
    ∷ procedure 22 (at (OrganisationId ∷ [])) demand22
    ∷ []

-- ---- contacts
abbrev pub contact_procedures : List Procedure
contact_procedures =
    -- one contactParty
    procedure 23 (at (RequestLabeler ∷ Registrant ∷ Establishment ∷ [])) (of_element breaks23)
    -- one whole address; with state and postal code in the USA
    ∷ procedure 24 (at (ContactParty ∷ Establishment ∷ [])) (of_element breaks24)
    ∷ procedure 25 (at (Addr ∷ [])) (of_element breaks25)
    -- two telecoms; a telephone; a mail address; a telephone in its form
    ∷ procedure 26 (at (ContactParty ∷ Agent ∷ [])) (of_element breaks26)
    ∷ procedure 27 (at (ContactParty ∷ Agent ∷ [])) (of_element breaks27)
    ∷ procedure 28 (at (ContactParty ∷ Agent ∷ [])) (of_element breaks28)
    ∷ procedure 29 (at (Telecom ∷ [])) (of_element breaks29)
    -- one contactPerson with one name
    ∷ procedure 30 (at (ContactParty ∷ [])) (of_element breaks30)
    ∷ []

-- ---- registrations
abbrev pub registration_procedures : List Procedure
registration_procedures =
    -- one registrant; an establishment
    procedure 31 (at (Labeler ∷ [])) (of_element breaks31)
    ∷ procedure 32 (at (Registrant ∷ [])) (of_element breaks32)
    -- an agent's or importer's entity has the one operation code of the two
    ∷ procedure 33 (at (Entity4 ∷ [])) (of_element breaks33)
    -- the code list has each operation code
    ∷ procedure 34 (at (OperationCode ∷ [])) (row_of demand34)
    -- an establishment abroad has an agent; one in the USA neither agent nor importer
    ∷ procedure 35 (at (Establishment ∷ [])) (of_element breaks35)
    ∷ procedure 36 (at (Establishment ∷ [])) (of_element breaks36)
    -- an establishment's entity has an operation code; of the NCI system
    ∷ procedure 37 (at (Entity3 ∷ [])) (of_element breaks37)
    ∷ procedure 38 (at (OperationCode ∷ [])) (of_element breaks38)
    ∷ []

abbrev pub procedures : List Procedure
procedures =
    listed_procedures ++ header_procedures ++ organisation_procedures ++ contact_procedures ++ registration_procedures

-- ---- by their numbers
abbrev pub no_procedure : Procedure
no_procedure = procedure 0 (λ r. false) (λ d h n. Nothing)

-- the first of these with number p
unfoldable pub with_number : ℕ → List Procedure → Procedure
with_number p [] = no_procedure
with_number p (x ∷ xs) = pick (eqb p x.number) x (with_number p xs)

-- what procedure p, one of these, demands of element n
unfoldable pub demand_in : List Procedure → Draft → Header → ℕ → ℕ → Demand
demand_in rows d h p n = (with_number p rows).asks d h n

unfoldable pub demand_of : Draft → Header → ℕ → ℕ → Demand
demand_of d h p n = demand_in procedures d h p n

-- procedure p can be found at an element of role r
unfoldable pub found_at : ℕ → ℕ → Bool
found_at p r = (with_number p procedures).place r

abbrev pub keep : Bool → ℕ → List ℕ → List ℕ
keep true p ps = p ∷ ps
keep false p ps = ps

-- of the procedures p, p + 1, .., m of them, those that can be found at an element of role r
unfoldable pub asked_from : ℕ → ℕ → ℕ → List ℕ
asked_from r p zero = []
asked_from r p (suc m) = keep (found_at p r) p (asked_from r (p + 1) m)

unfoldable pub asked_at : ℕ → List ℕ
asked_at r = asked_from r 1 last_procedure
