-- Where a field starts: what `field_start` answers. No definition of document 01.
-- Assumes nothing.
use Rattle.std.specs.Prelude.{ℕ, zero, suc, ◌+◌, List, [], ◌∷◌}
use Rattle.text_scan.specs.Choice.{pick}
use Rattle.table_lines.specs.Lines.{is_tab}

-- the place where the field of number k starts, and else the end, in what follows place i of a line
unfoldable pub field_start : ℕ → ℕ → List ℕ → ℕ
field_start zero i xs = i
field_start (suc k) i [] = i
field_start (suc k) i (b ∷ bs) = pick (is_tab b) (field_start k (i + 1) bs) (field_start (suc k) (i + 1) bs)
