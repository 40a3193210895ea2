-- Procedures 5 to 13 (document 01, "From 002 section 1.1 to 1.3"): what the root has one of, and the labeler.
-- Assumes nothing.
use Rattle.std.specs.Prelude.{ℕ, ◌+◌, Bool, eqb, length, Option}
use Rattle.text_scan.specs.Choice.{pick, ◌and◌, not}
use Rattle.judge_paths.specs.Roles.{Root, Id, Code, EffectiveTime, SetId, VersionNumber, Labeler, RequestLabeler}
use Rattle.judge_draft.specs.declared.Demand.{Demand}
use Rattle.judge_draft.specs.declared.Demand.TheVariants.{CodeRow, NoDocument, NoVersion}
use Rattle.judge_tests.specs.declared.Test.TheVariants.{Any}
use Rattle.judge_draft.specs.Drafts.{Draft, is}
use Rattle.judge_below.specs.Chosen.{chosen, wanted, one, the}
use Rattle.judge_draft.specs.Demands.{demand_if}
use Rattle.judge_header.specs.declared.Header.{Header}
use Rattle.judge_header.specs.Header.{guid_root, id_holds, set_holds, typed_code, has_type, day_value, version_value, version_holds}

-- element n is the one of its role
unfoldable pub one_at : Draft → Option ℕ → ℕ → ℕ → Bool
one_at d found r n = is d r n and one found

-- one child of the root with a property: a wrong number is found at the root, any other fault at the child
unfoldable pub one_of_root : Draft → Option ℕ → ℕ → (ℕ → Bool) → ℕ → Bool
one_of_root d found r p n = pick (is d Root n) (not (one found)) (one_at d found r n and not (p n))

unfoldable pub breaks5 : Draft → Header → ℕ → Bool
breaks5 d h n = one_of_root d h.id Id (guid_root d) n

unfoldable pub demand6 : Draft → Header → ℕ → Demand
demand6 d h n = demand_if (is d Id n and id_holds d h) (NoDocument n)

unfoldable pub breaks7 : Draft → Header → ℕ → Bool
breaks7 d h n = one_of_root d h.code Code (typed_code d) n

unfoldable pub demand8 : Draft → Header → ℕ → Demand
demand8 d h n = demand_if (is d Code n and has_type d h) (CodeRow n)

unfoldable pub breaks9 : Draft → Header → ℕ → Bool
breaks9 d h n = one_of_root d h.time EffectiveTime (day_value d) n

unfoldable pub breaks10 : Draft → Header → ℕ → Bool
breaks10 d h n = one_of_root d h.set SetId (guid_root d) n

unfoldable pub breaks11 : Draft → Header → ℕ → Bool
breaks11 d h n = one_of_root d h.version VersionNumber (version_value d) n

-- 12: at versionNumber
unfoldable pub demand12 : Draft → Header → ℕ → Demand
demand12 d h n = demand_if (is d VersionNumber n and set_holds d h and version_holds d h) (NoVersion (the h.set) n)

-- 13: a labeler stands three levels below the root; that of a request has a role of its own
abbrev pub labelers : Draft → ℕ → ℕ
labelers d n = length (chosen d (wanted RequestLabeler 3 Any) n) + length (chosen d (wanted Labeler 3 Any) n)

unfoldable pub breaks13 : Draft → Header → ℕ → Bool
breaks13 d h n = is d Root n and has_type d h and not (eqb (labelers d n) 1)
