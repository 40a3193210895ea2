-- What the functions that pass bytes by blocks answer. No definition of document 01 stands here.
-- Assumes nothing.
use Rattle.std.specs.Prelude.{ℕ, zero, suc, ◌+◌, Bool, true, List, ltb, get_or}
use Rattle.text_scan.specs.Choice.{◌and◌}
use Rattle.text_scan.specs.Lists.{run_from}

-- the k bytes from i on have the property
unfoldable pub throughout : (ℕ → Bool) → List ℕ → ℕ → ℕ → Bool
throughout p s i zero = true
throughout p s i (suc k) = throughout p s i k and p (get_or s (i + k) 0)

-- the place of the next byte from i on that is not above 13, as tab, line feed and carriage return are not, or the length
abbrev pub plain_end : List ℕ → ℕ → ℕ
plain_end s i = run_from (ltb 13) s i
