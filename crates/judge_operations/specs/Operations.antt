-- Procedures 33, 34, 37 and 38 (document 01, "Registration"). An entity's operation codes are the codes in its performances: an act definition and a
-- performance stand between.
-- Assumes nothing.
use Rattle.std.specs.Prelude.{ℕ, Bool, List}
use Rattle.text_scan.specs.Choice.{◌or◌, ◌and◌, not}
use Rattle.text_scan.specs.Bytes.{text}
use Rattle.judge_paths.specs.Roles.{Entity3, Establishment, Entity4, OperationCode}
use Rattle.judge_draft.specs.declared.Demand.{Demand}
use Rattle.judge_draft.specs.declared.Demand.TheVariants.{CodeRow}
use Rattle.judge_tests.specs.declared.Test.TheVariants.{Any}
use Rattle.judge_draft.specs.Drafts.{Draft, is, is_empty, attribute_is}
use Rattle.judge_tests.specs.Passing.{agent_code, import_code}
use Rattle.judge_below.specs.Chosen.{ancestor, chosen, wanted, kids, only_one, one_has}
use Rattle.judge_draft.specs.Demands.{demand_if}

abbrev pub operations : Draft → ℕ → List ℕ
operations d n = chosen d (wanted OperationCode 3 Any) n

unfoldable pub of_nci : Draft → ℕ → Bool
of_nci d k = attribute_is d (text "codeSystem") (text "2.16.840.1.113883.3.26.1.1") k

-- 33: of the NCI system, agent or import
unfoldable pub is_agency : Draft → ℕ → Bool
is_agency d k = of_nci d k and (attribute_is d (text "code") agent_code k or attribute_is d (text "code") import_code k)

unfoldable pub breaks33 : Draft → ℕ → Bool
breaks33 d n = is d Entity4 n and not (one_has (only_one (operations d n)) (is_agency d))

-- 34: at the code
unfoldable pub demand34 : Draft → ℕ → Demand
demand34 d n = demand_if (is d OperationCode n) (CodeRow n)

-- ---- 37 and 38: the entity of an establishment
unfoldable pub has_establishment : Draft → ℕ → Bool
has_establishment d n = is d Entity3 n and not (is_empty (kids d n Establishment))

unfoldable pub breaks37 : Draft → ℕ → Bool
breaks37 d n = has_establishment d n and is_empty (operations d n)

unfoldable pub breaks38 : Draft → ℕ → Bool
breaks38 d n = is d OperationCode n and not (of_nci d n) and has_establishment d (ancestor d 3 n)
