-- The findings list (document 01, "The procedures", its last paragraph): filled from its front, one record at a time, the rest unchanged.
-- Assumes nothing.
use Rattle.std.specs.Prelude.{ℕ, ◌+◌, ◌*◌, ◌/◌, Bool, List, leb, length}
use denote.Ref.{at_last}
use Rattle.text_scan.specs.Choice.{pick}
use Rattle.list_findings.specs.declared.Finding.{Finding}
use Rattle.list_findings.specs.Findings.{width, stored}
use Rattle.list_writer.specs.declared.Listing.{Listing}

-- no further record fits behind `count` records
abbrev pub is_full : List ℕ → ℕ → Bool
is_full list count = leb (length list / width) count

-- the list and the count once a record is appended; a full list stays as it is
unfoldable pub list_after : List ℕ → ℕ → Finding → List ℕ
list_after list count r = pick (is_full list count) list (stored list (count * width) r)

unfoldable pub count_after : List ℕ → ℕ → ℕ
count_after list count = pick (is_full list count) count (count + 1)

-- the same borrow, at that list, with that count
abbrev pub appended : Listing → Finding → Listing
appended w r = record { list = at_last w.list (list_after w.list.now w.count r); count = count_after w.list.now w.count }
