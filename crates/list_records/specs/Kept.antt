-- Findings kept as structs in a lent room: the first records of a list of numbers, from a number on. No definition of document 01: `judge_both` needs them
-- between its two checks and the merge.
-- Assumes nothing.
use Rattle.std.specs.Prelude.{ℕ, ◌+◌, ◌/◌, Bool, List, ◌++◌, leb, length, take, drop}
use Rattle.text_scan.specs.Choice.{pick, ◌and◌}
use Rattle.list_findings.specs.declared.Finding.{Finding}
use Rattle.list_findings.specs.Findings.{width, first_records}

-- a list of so many numbers has n records, and a room for so many has place for them from number `at` on
abbrev pub fitting : ℕ → ℕ → ℕ → ℕ → Bool
fitting numbers n room at = leb n (numbers / width) and leb (at + n) room

-- records in a room from number `at` on, the others unchanged
abbrev pub placed : List Finding → ℕ → List Finding → List Finding
placed room at rs = take at room ++ rs ++ drop (at + length rs) room

-- the room then: as it was where they do not fit
unfoldable pub kept_in : List ℕ → ℕ → List Finding → ℕ → List Finding
kept_in list n room at = pick (fitting (length list) n (length room) at) (placed room at (first_records list n)) room
