-- Worked examples of the definitions, each computed.
-- Assumes nothing.
use Rattle.std.specs.Prelude.{ℕ, ◌≡◌, refl, Bool, true, false, List, [], ◌∷◌, ◌++◌, eqb}
use Prim.Native.String.{String}
use Rattle.text_scan.specs.Choice.{◌or◌, ◌and◌, not}
use Rattle.text_scan.specs.Bytes.{text}
use Rattle.text_scan.specs.Lists.{pairs, run_end}
use Rattle.text_facts.specs.Strings.{equal}
use Rattle.xml_names.specs.Names.{name_end}
use Rattle.xml_steps.specs.Reading.{element_row}
use Rattle.judge_paths.specs.declared.DocumentType.{DocumentType}
use Rattle.judge_paths.specs.declared.DocumentType.TheVariants.{Neither, Registration, Request}
use Rattle.judge_paths.specs.Roles.{Unknown, Unlisted, Root, Br, SetId, Author, StructuredBody, Time, Labeler, RequestLabeler, Entity2, Registrant, Establishment, ContactParty, OperationCode}
use Rattle.judge_paths.specs.Paths.{KnownRow, fits, table, role_named, child_role, role_within, role_of}

-- ---- every row of the table counts: no other of its parent has its name
abbrev holds : DocumentType → List KnownRow → Bool
holds t [] = true
holds t (x ∷ xs) = (not (fits x.types t) or eqb (child_role t x.parent x.name) x.child) and holds t xs

holds_neither : holds Neither table ≡ true
unfolding pairs equal role_named child_role
holds_neither = refl

holds_registration : holds Registration table ≡ true
unfolding pairs equal role_named child_role
holds_registration = refl

holds_request : holds Request table ≡ true
unfolding pairs equal role_named child_role
holds_request = refl

-- ---- every role is reached from the root
abbrev path : DocumentType → ℕ → List String → ℕ
path t role [] = role
path t role (name ∷ names) = path t (child_role t role (text name)) names

abbrev ends : DocumentType → List String → List (List String) → List ℕ
ends t below [] = []
ends t below (names ∷ more) = path t Root (below ++ names) ∷ ends t below more

abbrev to_labeler : List String
to_labeler = "author" ∷ "assignedEntity" ∷ "representedOrganization" ∷ []

abbrev to_registrant : List String
to_registrant = to_labeler ++ ("assignedEntity" ∷ "assignedOrganization" ∷ [])

abbrev to_establishment : List String
to_establishment = to_registrant ++ ("assignedEntity" ∷ "assignedOrganization" ∷ [])

in_any_document : ends Neither [] ([] ∷ ("id" ∷ []) ∷ ("code" ∷ []) ∷ ("title" ∷ []) ∷ ("title" ∷ "br" ∷ []) ∷ ("effectiveTime" ∷ []) ∷ ("setId" ∷ []) ∷ ("versionNumber" ∷ []) ∷ ("author" ∷ []) ∷ ("component" ∷ []) ∷ ("component" ∷ "structuredBody" ∷ []) ∷ [])
    ≡ 2 ∷ 3 ∷ 4 ∷ 5 ∷ 6 ∷ 7 ∷ 8 ∷ 9 ∷ 10 ∷ 11 ∷ 12 ∷ []
unfolding pairs equal role_named child_role
in_any_document = refl

to_the_labeler : ends Request ("author" ∷ []) (("time" ∷ []) ∷ ("assignedEntity" ∷ []) ∷ ("assignedEntity" ∷ "representedOrganization" ∷ []) ∷ []) ≡ 13 ∷ 37 ∷ 38 ∷ []
unfolding pairs equal role_named child_role
to_the_labeler = refl

in_a_registration : ends Registration to_labeler ([] ∷ ("assignedEntity" ∷ []) ∷ ("assignedEntity" ∷ "assignedOrganization" ∷ []) ∷ []) ≡ 15 ∷ 16 ∷ 17 ∷ []
unfolding pairs equal role_named child_role
in_a_registration = refl

in_the_registrant : ends Registration to_registrant (("assignedEntity" ∷ []) ∷ ("assignedEntity" ∷ "assignedOrganization" ∷ []) ∷ []) ≡ 18 ∷ 19 ∷ []
unfolding pairs equal role_named child_role
in_the_registrant = refl

in_an_establishment : ends Registration to_establishment (("assignedEntity" ∷ []) ∷ ("assignedEntity" ∷ "assignedOrganization" ∷ []) ∷ []) ≡ 20 ∷ 21 ∷ []
unfolding pairs equal role_named child_role
in_an_establishment = refl

in_an_organisation : ends Registration to_establishment (("id" ∷ []) ∷ ("name" ∷ []) ∷ ("contactParty" ∷ []) ∷ ("contactParty" ∷ "contactPerson" ∷ []) ∷ ("contactParty" ∷ "contactPerson" ∷ "name" ∷ []) ∷ [])
    ≡ 22 ∷ 23 ∷ 24 ∷ 25 ∷ 26 ∷ []
unfolding pairs equal role_named child_role
in_an_organisation = refl

in_an_address : ends Request (to_labeler ++ ("contactParty" ∷ [])) (("addr" ∷ []) ∷ ("addr" ∷ "streetAddressLine" ∷ []) ∷ ("addr" ∷ "city" ∷ []) ∷ ("addr" ∷ "state" ∷ []) ∷ ("addr" ∷ "postalCode" ∷ []) ∷ ("addr" ∷ "country" ∷ []) ∷ ("telecom" ∷ []) ∷ [])
    ≡ 27 ∷ 28 ∷ 29 ∷ 30 ∷ 31 ∷ 32 ∷ 33 ∷ []
unfolding pairs equal role_named child_role
in_an_address = refl

in_a_performance : ends Registration (to_registrant ++ ("assignedEntity" ∷ [])) (("performance" ∷ []) ∷ ("performance" ∷ "actDefinition" ∷ []) ∷ ("performance" ∷ "actDefinition" ∷ "code" ∷ []) ∷ []) ≡ 34 ∷ 35 ∷ 36 ∷ []
unfolding pairs equal role_named child_role
in_a_performance = refl

-- ---- what is not listed, and what is not judged
request_labeler_entity : child_role Request RequestLabeler (text "assignedEntity") ≡ Unlisted
unfolding pairs equal role_named child_role
request_labeler_entity = refl

request_labeler_contact : child_role Request RequestLabeler (text "contactParty") ≡ ContactParty
unfolding pairs equal role_named child_role
request_labeler_contact = refl

registration_labeler_contact : child_role Registration Labeler (text "contactParty") ≡ Unlisted
unfolding pairs equal role_named child_role
registration_labeler_contact = refl

registration_labeler_entity : child_role Registration Labeler (text "assignedEntity") ≡ Entity2
unfolding pairs equal role_named child_role
registration_labeler_entity = refl

-- whatever its name
untyped_author : (name : List ℕ) → child_role Neither Author name ≡ Unknown
unfolding child_role
untyped_author name = refl

in_a_leaf : (t : DocumentType) (name : List ℕ) → child_role t StructuredBody name ≡ Unlisted
unfolding role_named child_role
in_a_leaf t name = refl

in_an_unlisted : (t : DocumentType) (name : List ℕ) → child_role t Unlisted name ≡ Unknown
unfolding child_role
in_an_unlisted t name = refl

in_an_unknown : (t : DocumentType) (name : List ℕ) → child_role t Unknown name ≡ Unknown
unfolding child_role
in_an_unknown t name = refl

typed_author_id : child_role Request Author (text "id") ≡ Unlisted
unfolding pairs equal role_named child_role
typed_author_id = refl

establishment_telecom : child_role Registration Establishment (text "telecom") ≡ Unlisted
unfolding pairs equal role_named child_role
establishment_telecom = refl

registrant_addr : child_role Registration Registrant (text "addr") ≡ Unlisted
unfolding pairs equal role_named child_role
registrant_addr = refl

level_2_performance : child_role Registration Entity2 (text "performance") ≡ Unlisted
unfolding pairs equal role_named child_role
level_2_performance = refl

other_case : child_role Registration Root (text "setid") ≡ Unlisted
unfolding pairs equal role_named child_role
other_case = refl

-- ---- a document of five elements: its root, title with br, and an element that is not listed, with another inside
abbrev document : List ℕ
document = text "<a><title><br/></title><b><id/></b></a>"

abbrev rows : List ℕ
rows = element_row 0 0 0 39 ++ element_row 1 0 3 23 ++ element_row 2 1 10 15 ++ element_row 3 0 23 35 ++ element_row 4 3 26 31

its_root : role_of document rows Neither 0 ≡ Root
unfolding role_within role_of
its_root = refl

its_br : role_of document rows Neither 2 ≡ Br
unfolding run_end name_end pairs equal role_named child_role role_within role_of
its_br = refl

not_listed : role_of document rows Neither 3 ≡ Unlisted
unfolding run_end name_end pairs equal role_named child_role role_within role_of
not_listed = refl

inside_it : role_of document rows Neither 4 ≡ Unknown
unfolding run_end name_end pairs equal role_named child_role role_within role_of
inside_it = refl

no_such_row : role_of document rows Neither 5 ≡ Unknown
unfolding role_within role_of
no_such_row = refl
