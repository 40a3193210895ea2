-- Procedures 31, 32, 35 and 36 (document 01, "Registration").
-- Assumes nothing.
use Rattle.std.specs.Prelude.{ℕ, Bool}
use Rattle.text_scan.specs.Choice.{◌and◌, not}
use Rattle.judge_paths.specs.Roles.{Labeler, Registrant, Establishment, Addr, OperationCode}
use Rattle.judge_tests.specs.declared.Test.TheVariants.{Any, Agent, Import}
use Rattle.judge_draft.specs.Drafts.{Draft, is, is_empty}
use Rattle.judge_below.specs.Chosen.{chosen, wanted, only_one, one, one_has, only_kid}
use Rattle.judge_addresses.specs.Addresses.{address_holds, is_usa}

-- ---- 31 and 32: an organisation stands two levels below the one above it
unfoldable pub breaks31 : Draft → ℕ → Bool
breaks31 d n = is d Labeler n and not (one (only_one (chosen d (wanted Registrant 2 Any) n)))

unfoldable pub breaks32 : Draft → ℕ → Bool
breaks32 d n = is d Registrant n and is_empty (chosen d (wanted Establishment 2 Any) n)

-- ---- 35 and 36: at the establishment. The operation codes four levels below it are those of its level 4 entities
unfoldable pub in_usa : Draft → ℕ → Bool
in_usa d n = one_has (only_kid d n Addr) (is_usa d)

unfoldable pub breaks35 : Draft → ℕ → Bool
breaks35 d n =
    is d Establishment n and address_holds d n and not (in_usa d n)
    and is_empty (chosen d (wanted OperationCode 4 Agent) n)

unfoldable pub breaks36 : Draft → ℕ → Bool
breaks36 d n =
    is d Establishment n and address_holds d n and in_usa d n
    and not
    (is_empty (chosen d (wanted OperationCode 4 Agent) n) and is_empty (chosen d (wanted OperationCode 4 Import) n))
