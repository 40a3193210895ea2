-- The worked example of document 01, "At the edges": what the procedures demand of the root of `<a/>`.
-- Assumes nothing.
use Prim.Native.Nat.{ℕ}
use mathlib.Core.Path.{◌≡◌, refl}
use mathlib.Core.List.{List, [], ◌∷◌}
use Rattle.text_scan.specs.Bytes.{text}
use Rattle.text_scan.specs.Lists.{every, pairs, begins, run_end}
use Rattle.text_scan.specs.Walk.{walk, from}
use Rattle.text_facts.specs.Strings.{equal, without_space, is_guid}
use Rattle.text_numbers.specs.Numbers.{version_of}
use Rattle.text_numbers.specs.Days.{is_day}
use Rattle.xml_names.specs.Names.{name_end, name_is}
use Rattle.xml_names.specs.Values.{opened, equals_at}
use Rattle.xml_names.specs.ElementNames.{element_end}
use Rattle.xml_attributes.specs.Chains.{items, ending, chain, chain_from}
use Rattle.xml_attributes.specs.Attributes.{attribute_to}
use Rattle.xml_attributes.specs.Parts.{part_to, tag_piece_at, attributes, some_attribute}
use Rattle.xml_values.specs.Attributes.{name_after, first_named, attribute_place, has_other, is_listed, is_other}
use Rattle.judge_paths.specs.Roles.{Root}
use Rattle.judge_paths.specs.Attributes.{listed_names}
use Rattle.judge_draft.specs.declared.Demand.{Demand}
use Rattle.judge_draft.specs.declared.Demand.TheVariants.{Nothing, Broken}
use Rattle.judge_draft.specs.Below.{ancestor_in, those, all_below}
use Rattle.judge_draft.specs.Drafts.{Draft, full_draft, is, is_known, attribute, said}
use Rattle.judge_tests.specs.Passing.{passes}
use Rattle.judge_below.specs.Chosen.{chosen}
use Rattle.judge_listed.specs.Listed.{is_named_document, has_schema, is_declared, root_is_right, breaks1, breaks2, other_than, breaks3, breaks4}
use Rattle.judge_header.specs.Header.{guid_root, id_holds, set_holds, code_is, typed_code, has_type, day_value, version_value, version_holds, header_of}
use Rattle.judge_root.specs.Root.{one_at, one_of_root, breaks5, demand6, breaks7, demand8, breaks9, breaks10, breaks11, demand12, breaks13}
use Rattle.judge_organisations.specs.Organisations.{organisation_in, is_organisation, right_ids, duns_id, has_extension, duns_holds, is_said, name_holds, is_one_name, breaks14, breaks15, breaks16, breaks17, demand18}
use Rattle.judge_keys.specs.Keys.{labeler_id, labeler_holds, is_labeler_id, is_registrant_id, breaks19, breaks20, demand21, demand22}
use Rattle.judge_addresses.specs.Addresses.{one_said, lines_said, is_address, address_holds, is_usa, breaks24, breaks25}
use Rattle.judge_contacts.specs.Contacts.{has_contact, contact_holds, has_telecoms, person_holds, breaks23, breaks26, breaks27, breaks28, breaks29, breaks30}
use Rattle.judge_operations.specs.Operations.{of_nci, is_agency, has_establishment, breaks33, demand34, breaks37, breaks38}
use Rattle.judge_registrations.specs.Registrations.{in_usa, breaks31, breaks32, breaks35, breaks36}
use Rattle.judge_draft.specs.Demands.{broken_if}
use Rattle.judge_header.specs.declared.Header.{Header}
use Rattle.list_findings.specs.Findings.{last_procedure}
use Rattle.judge_procedures.specs.Procedures.{Procedure, procedures, with_number, demand_in, demand_of}

abbrev smallest : Draft
smallest = full_draft (text "<a/>") (Root ∷ 0 ∷ 0 ∷ 4 ∷ [])

demands : List Procedure → List Demand
demands [] = []
demands (x ∷ xs) = x.asks smallest (header_of smallest) 0 ∷ demands xs

-- 1, 5, 7, 9, 10 and 11 are broken, and no table is asked
whole : demands procedures ≡ Broken ∷ Nothing ∷ Nothing ∷ Nothing ∷ Broken ∷ Nothing ∷ Broken ∷ Nothing ∷ Broken ∷ Broken ∷ Broken ∷ Nothing ∷ Nothing ∷ Nothing ∷ Nothing ∷ Nothing ∷ Nothing ∷ Nothing ∷ Nothing ∷ Nothing ∷ Nothing ∷ Nothing ∷ Nothing ∷ Nothing ∷ Nothing ∷ Nothing ∷ Nothing ∷ Nothing ∷ Nothing ∷ Nothing ∷ Nothing ∷ Nothing ∷ Nothing ∷ Nothing ∷ Nothing ∷ Nothing ∷ Nothing ∷ Nothing ∷ []
unfolding demands every pairs begins run_end walk from equal without_space is_guid version_of is_day name_end opened equals_at element_end name_is items ending chain chain_from attribute_to part_to tag_piece_at attributes some_attribute name_after first_named attribute_place has_other is_listed is_other ancestor_in those all_below full_draft is is_known attribute said passes chosen listed_names other_than is_named_document is_declared has_schema root_is_right guid_root id_holds set_holds code_is typed_code has_type day_value version_value version_holds one_at one_of_root header_of breaks1 breaks2 breaks3 breaks4 breaks5 demand6 breaks7 demand8 breaks9 breaks10 breaks11 demand12 breaks13 organisation_in is_organisation right_ids duns_id labeler_id has_extension duns_holds is_said name_holds is_one_name labeler_holds is_labeler_id is_registrant_id breaks14 breaks15 breaks16 breaks17 demand18 breaks19 breaks20 demand21 demand22 has_contact contact_holds one_said lines_said is_address address_holds is_usa has_telecoms person_holds breaks23 breaks24 breaks25 breaks26 breaks27 breaks28 breaks29 breaks30 of_nci is_agency in_usa has_establishment breaks31 breaks32 breaks33 demand34 breaks35 breaks36 breaks37 breaks38
whole = refl

-- each stands under its number
fifth : (d : Draft) (h : Header) (n : ℕ) → demand_of d h 5 n ≡ broken_if (breaks5 d h n)
unfolding demand_of demand_in with_number
fifth d h n = refl

last : (d : Draft) (h : Header) (n : ℕ) → demand_of d h last_procedure n ≡ broken_if (breaks38 d n)
unfolding demand_of demand_in with_number
last d h n = refl
