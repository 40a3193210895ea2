-- Procedures 14 to 18 (document 01, "Organisations"). Procedures 15 to 18 skip the labeler of a registration.
-- Assumes nothing.
use Rattle.std.specs.Prelude.{ℕ, Bool, eqb, length, Option}
use Rattle.text_scan.specs.Choice.{pick, ◌or◌, ◌and◌, not, between}
use Rattle.text_scan.specs.Bytes.{text}
use Rattle.judge_paths.specs.Roles.{Unknown, Entity1, Labeler, Entity2, Registrant, Entity3, Establishment, Entity4, Agent, OrganisationId, OrganisationName, RequestEntity, RequestLabeler, is_known_role}
use Rattle.judge_draft.specs.declared.Demand.{Demand}
use Rattle.judge_draft.specs.declared.Demand.TheVariants.{NameRow}
use Rattle.judge_draft.specs.Drafts.{Draft, role, parent, is, attribute, said, is_empty}
use Rattle.judge_draft.specs.Demands.{demand_if}
use Rattle.judge_tests.specs.declared.Test.TheVariants.{DunsRoot}
use Rattle.judge_below.specs.Chosen.{chosen, wanted, kids, only_one, one, one_has, the, is_the, only_kid}

-- ---- 14: each assignedEntity has one organisation
-- the role of the organisation in an entity of this role; there is none in any other element
unfoldable pub organisation_in : ℕ → ℕ
organisation_in r =
    pick (eqb r RequestEntity) RequestLabeler
    (pick (eqb r Entity1) Labeler
    (pick (eqb r Entity2) Registrant (pick (eqb r Entity3) Establishment (pick (eqb r Entity4) Agent Unknown))))

unfoldable pub breaks14 : Draft → ℕ → Bool
breaks14 d n = is_known_role (organisation_in (role d n)) and not (one (only_kid d n (organisation_in (role d n))))

-- ---- ids
-- an organisation that 15 to 18 judge
unfoldable pub is_organisation : Draft → ℕ → Bool
is_organisation d n = is d RequestLabeler n or is d Registrant n or is d Establishment n or is d Agent n

-- 15: two for the labeler, one or two for an establishment, one otherwise
unfoldable pub right_ids : Draft → ℕ → Bool
right_ids d n =
    pick (is d RequestLabeler n) (eqb (length (kids d n OrganisationId)) 2)
    (pick (is d Establishment n) (between 1 2 (length (kids d n OrganisationId))) (eqb (length (kids d n OrganisationId)) 1))

unfoldable pub breaks15 : Draft → ℕ → Bool
breaks15 d n = is_organisation d n and not (right_ids d n)

unfoldable pub has_extension : Draft → ℕ → Bool
has_extension d k = not (is_empty (attribute d k (text "extension")))

-- 16: the one id with the DUNS root, and it has an extension
unfoldable pub duns_id : Draft → ℕ → Option ℕ
duns_id d n = only_one (chosen d (wanted OrganisationId 1 DunsRoot) n)

unfoldable pub duns_holds : Draft → ℕ → Bool
duns_holds d n = one_has (duns_id d n) (has_extension d)

unfoldable pub breaks16 : Draft → ℕ → Bool
breaks16 d n = is_organisation d n and not (duns_holds d n)

-- ---- names
unfoldable pub is_said : Draft → ℕ → Bool
is_said d k = not (is_empty (said d k))

-- 17: one name, not empty
unfoldable pub name_holds : Draft → ℕ → Bool
name_holds d n = one_has (only_kid d n OrganisationName) (is_said d)

-- n is the one name of an organisation that is judged
unfoldable pub is_one_name : Draft → ℕ → Bool
is_one_name d n =
    is d OrganisationName n and is_organisation d (parent d n) and is_the (only_kid d (parent d n) OrganisationName) n

-- a wrong number is found at the organisation, an empty name at the name
unfoldable pub breaks17 : Draft → ℕ → Bool
breaks17 d n =
    pick (is_organisation d n) (not (one (only_kid d n OrganisationName))) (is_one_name d n and not (is_said d n))

-- 18: if 16 and 17 hold, a row with the extension of the id and the name; at name
unfoldable pub demand18 : Draft → ℕ → Demand
demand18 d n =
    demand_if (is_one_name d n and name_holds d (parent d n) and duns_holds d (parent d n)) (NameRow (the (duns_id d (parent d n))) n)
