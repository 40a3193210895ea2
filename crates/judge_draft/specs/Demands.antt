-- The demands of a test: broken where it fails, or a row where its premise holds.
-- Assumes nothing.
use Rattle.std.specs.Prelude.{Bool}
use Rattle.text_scan.specs.Choice.{pick}
use Rattle.judge_draft.specs.declared.Demand.{Demand}
use Rattle.judge_draft.specs.declared.Demand.TheVariants.{Nothing, Broken}

abbrev pub broken_if : Bool → Demand
broken_if b = pick b Broken Nothing

abbrev pub demand_if : Bool → Demand → Demand
demand_if b x = pick b x Nothing
