-- Which demands a procedure of a class can make: the class of each procedure's number agrees with its demands (law `class_suits`).
-- Assumes nothing.
use Rattle.std.specs.Prelude.{Bool, true, false}
use Rattle.list_findings.specs.declared.Class.{Class}
use Rattle.list_findings.specs.declared.Class.TheVariants.{DocumentOnly, Both, Either}
use Rattle.judge_draft.specs.declared.Demand.{Demand}
use Rattle.judge_draft.specs.declared.Demand.TheVariants.{Nothing, Broken, CodeRow, NameRow, NoDocument, NoVersion, NoKeyElsewhere, NoOtherKey}

-- a demand that wants a row, and one that forbids a row
abbrev pub wants_row : Demand → Bool
wants_row Nothing = true
wants_row Broken = false
wants_row (CodeRow k) = true
wants_row (NameRow i k) = true
wants_row (NoDocument k) = false
wants_row (NoVersion s k) = false
wants_row (NoKeyElsewhere type k s) = false
wants_row (NoOtherKey k s) = false

abbrev pub forbids_row : Demand → Bool
forbids_row Nothing = true
forbids_row Broken = false
forbids_row (CodeRow k) = false
forbids_row (NameRow i k) = false
forbids_row (NoDocument k) = true
forbids_row (NoVersion s k) = true
forbids_row (NoKeyElsewhere type k s) = true
forbids_row (NoOtherKey k s) = true

abbrev pub asks_no_table : Demand → Bool
asks_no_table Nothing = true
asks_no_table Broken = true
asks_no_table (CodeRow k) = false
asks_no_table (NameRow i k) = false
asks_no_table (NoDocument k) = false
asks_no_table (NoVersion s k) = false
asks_no_table (NoKeyElsewhere type k s) = false
asks_no_table (NoOtherKey k s) = false

abbrev pub suits : Class → Demand → Bool
suits DocumentOnly x = asks_no_table x
suits Both x = wants_row x
suits Either x = forbids_row x
