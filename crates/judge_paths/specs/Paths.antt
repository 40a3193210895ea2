-- Which elements are known and as what (document 01, "Known elements"): the root is, and an element is when its parent is known and
-- lists it. What a parent lists is one table.
-- Assumes nothing.
use Rattle.std.specs.Prelude.{ℕ, zero, suc, ◌+◌, ◌/◌, Bool, true, false, List, [], ◌∷◌, ◌++◌, eqb, ltb, length}
use Prim.Native.String.{String}
use Rattle.text_scan.specs.Choice.{pick, ◌or◌, ◌and◌, not}
use Rattle.text_scan.specs.Bytes.{text}
use Rattle.text_facts.specs.Strings.{equal}
use Rattle.xml_names.specs.Names.{name_at}
use Rattle.xml_steps.specs.Reading.{parent_of, first_of}
use Rattle.judge_paths.specs.declared.DocumentType.{DocumentType}
use Rattle.judge_paths.specs.declared.DocumentType.TheVariants.{Neither, Registration, Request}
use Rattle.judge_paths.specs.Roles.{Unknown, Unlisted, Root, Id, Code, Title, Br, EffectiveTime, SetId, VersionNumber, Author, Component, StructuredBody, Time, Entity1, Labeler, Entity2, Registrant, Entity3, Establishment, Entity4, Agent, OrganisationId, OrganisationName, ContactParty, ContactPerson, PersonName, Addr, StreetAddressLine, City, State, PostalCode, Country, Telecom, Performance, ActDefinition, OperationCode, RequestEntity, RequestLabeler, is_known_role}

-- the document types for which a row of the table holds
pub data Types : Type 0 where
  any : Types
  either : Types
  registration : Types
  request : Types

abbrev pub fits : Types → DocumentType → Bool
fits any t = true
fits either Neither = false
fits either Registration = true
fits either Request = true
fits registration Neither = false
fits registration Registration = true
fits registration Request = false
fits request Neither = false
fits request Registration = false
fits request Request = true

-- a parent lists an element of this name, which is then known as `child`
pub record KnownRow : Type 0 where
  pub types : Types
  pub parent : ℕ
  pub name : List ℕ
  pub child : ℕ

abbrev pub known : Types → ℕ → String → ℕ → KnownRow
known types parent name child = record { types = types; parent = parent; name = text name; child = child }

-- outside author, and directly in it
abbrev pub upper_table : List KnownRow
upper_table =
    known any Root "id" Id
    ∷ known any Root "code" Code
    ∷ known any Root "title" Title
    ∷ known any Root "effectiveTime" EffectiveTime
    ∷ known any Root "setId" SetId
    ∷ known any Root "versionNumber" VersionNumber
    ∷ known any Root "author" Author
    ∷ known any Root "component" Component
    ∷ known any Title "br" Br
    ∷ known any Component "structuredBody" StructuredBody
    ∷ known either Author "time" Time
    ∷ known registration Author "assignedEntity" Entity1
    ∷ known request Author "assignedEntity" RequestEntity
    ∷ []

-- labelers
abbrev pub labeler_table : List KnownRow
labeler_table =
    known any RequestEntity "representedOrganization" RequestLabeler
    ∷ known any RequestLabeler "id" OrganisationId
    ∷ known any RequestLabeler "name" OrganisationName
    ∷ known any RequestLabeler "contactParty" ContactParty
    ∷ known any Entity1 "representedOrganization" Labeler
    ∷ known any Labeler "id" OrganisationId
    ∷ known any Labeler "name" OrganisationName
    ∷ known any Labeler "assignedEntity" Entity2
    ∷ []

-- the organisations below
abbrev pub organisation_table : List KnownRow
organisation_table =
    known any Registrant "id" OrganisationId
    ∷ known any Registrant "name" OrganisationName
    ∷ known any Registrant "contactParty" ContactParty
    ∷ known any Registrant "assignedEntity" Entity3
    ∷ known any Establishment "id" OrganisationId
    ∷ known any Establishment "name" OrganisationName
    ∷ known any Establishment "contactParty" ContactParty
    ∷ known any Establishment "assignedEntity" Entity4
    ∷ known any Establishment "addr" Addr
    ∷ known any Agent "id" OrganisationId
    ∷ known any Agent "name" OrganisationName
    ∷ known any Agent "telecom" Telecom
    ∷ []

-- the entities that hold them
abbrev pub entity_table : List KnownRow
entity_table =
    known any Entity2 "assignedOrganization" Registrant
    ∷ known any Entity3 "assignedOrganization" Establishment
    ∷ known any Entity3 "performance" Performance
    ∷ known any Entity4 "assignedOrganization" Agent
    ∷ known any Entity4 "performance" Performance
    ∷ known any Performance "actDefinition" ActDefinition
    ∷ known any ActDefinition "code" OperationCode
    ∷ []

-- contacts and addresses
abbrev pub contact_table : List KnownRow
contact_table =
    known any ContactParty "addr" Addr
    ∷ known any ContactParty "telecom" Telecom
    ∷ known any ContactParty "contactPerson" ContactPerson
    ∷ known any ContactPerson "name" PersonName
    ∷ known any Addr "streetAddressLine" StreetAddressLine
    ∷ known any Addr "city" City
    ∷ known any Addr "state" State
    ∷ known any Addr "postalCode" PostalCode
    ∷ known any Addr "country" Country
    ∷ []

abbrev pub table : List KnownRow
table = contact_table ++ entity_table ++ organisation_table ++ labeler_table ++ upper_table

-- the child of this name, of the rows of this parent in a document of this type
unfoldable pub role_named : DocumentType → ℕ → List ℕ → List KnownRow → ℕ
role_named t parent name [] = Unlisted
role_named t parent name (x ∷ xs) =
    pick (eqb x.parent parent and fits x.types t and equal name x.name) x.child (role_named t parent name xs)

-- the children of a known element are judged; those of author in the two types only
abbrev pub is_judged : DocumentType → ℕ → Bool
is_judged t parent = is_known_role parent and (not (eqb parent Author) or fits either t)

-- the role of an element of this name inside a parent of that role
unfoldable pub child_role : DocumentType → ℕ → List ℕ → ℕ
child_role t parent name = pick (is_judged t parent) (role_named t parent name table) Unknown

-- element n has a row in the table, its parent stands earlier, and its first byte stands in the document
abbrev pub has_row : List ℕ → List ℕ → ℕ → Bool
has_row s rows n = ltb n (length rows / 4) and ltb (parent_of rows n) n and ltb (first_of rows n) (length s)

-- the name of element n stands behind its first byte
abbrev pub element_name : List ℕ → List ℕ → ℕ → List ℕ
element_name s rows n = name_at s (first_of rows n + 1)

-- the role of element n, which is at most k: number 0 is the root, and any other is told by its parent
unfoldable pub role_within : List ℕ → List ℕ → DocumentType → ℕ → ℕ → ℕ
role_within s rows t zero n = Root
role_within s rows t (suc k) n =
    pick (eqb n 0) Root
    (pick (has_row s rows n) (child_role t (role_within s rows t k (parent_of rows n)) (element_name s rows n)) Unknown)

-- the role of element n
unfoldable pub role_of : List ℕ → List ℕ → DocumentType → ℕ → ℕ
role_of s rows t n = role_within s rows t n n
