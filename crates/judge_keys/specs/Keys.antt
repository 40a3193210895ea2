-- Procedures 19 to 22 (document 01, "Organisations"): the labeler code, and the keys of the history.
-- Assumes nothing.
use Rattle.std.specs.Prelude.{ℕ, Bool, Option}
use Rattle.text_scan.specs.Choice.{pick, ◌and◌, not}
use Rattle.text_scan.specs.Bytes.{text}
use Rattle.text_facts.specs.Strings.{is_labeler_code}
use Rattle.judge_paths.specs.declared.DocumentType.TheVariants.{Registration, Request}
use Rattle.judge_paths.specs.Roles.{Registrant, OrganisationId, RequestLabeler}
use Rattle.judge_draft.specs.declared.Demand.{Demand}
use Rattle.judge_draft.specs.declared.Demand.TheVariants.{NoKeyElsewhere, NoOtherKey}
use Rattle.judge_draft.specs.Drafts.{Draft, parent, is, attribute}
use Rattle.judge_draft.specs.Demands.{demand_if}
use Rattle.judge_tests.specs.declared.Test.TheVariants.{LabelerRoot}
use Rattle.judge_below.specs.Chosen.{chosen, wanted, only_one, one_has, the, is_the}
use Rattle.judge_header.specs.declared.Header.{Header}
use Rattle.judge_header.specs.Header.{set_holds}
use Rattle.judge_organisations.specs.Organisations.{has_extension, duns_id, duns_holds}

-- 19: the labeler of a request has one id with the root of labeler codes, and it has an extension
unfoldable pub labeler_id : Draft → ℕ → Option ℕ
labeler_id d n = only_one (chosen d (wanted OrganisationId 1 LabelerRoot) n)

unfoldable pub labeler_holds : Draft → ℕ → Bool
labeler_holds d n = one_has (labeler_id d n) (has_extension d)

unfoldable pub breaks19 : Draft → ℕ → Bool
breaks19 d n = is d RequestLabeler n and not (labeler_holds d n)

-- 19 holds of n's labeler, and n is that id
unfoldable pub is_labeler_id : Draft → ℕ → Bool
is_labeler_id d n =
    is d OrganisationId n and is d RequestLabeler (parent d n) and labeler_holds d (parent d n)
    and is_the (labeler_id d (parent d n)) n

-- 16 holds of n's registrant, and n is that id
unfoldable pub is_registrant_id : Draft → ℕ → Bool
is_registrant_id d n =
    is d OrganisationId n and is d Registrant (parent d n) and duns_holds d (parent d n) and is_the (duns_id d (parent d n)) n

-- 20: at that id
unfoldable pub breaks20 : Draft → ℕ → Bool
breaks20 d n = is_labeler_id d n and not (is_labeler_code (attribute d n (text "extension")))

-- 21: if 10 holds, and also 19, or 16 of a registrant, no row of this type with this key under another set id; at that id
unfoldable pub demand21 : Draft → Header → ℕ → Demand
demand21 d h n =
    pick (is_labeler_id d n and set_holds d h) (NoKeyElsewhere Request n (the h.set))
    (demand_if (is_registrant_id d n and set_holds d h) (NoKeyElsewhere Registration n (the h.set)))

-- 22: if 10 and 19 hold, no row of a request with this set id and another key; at that id
unfoldable pub demand22 : Draft → Header → ℕ → Demand
demand22 d h n = demand_if (is_labeler_id d n and set_holds d h) (NoOtherKey n (the h.set))
