-- What the private functions of `value_end` answer. No definition of document 01 stands here.
-- Assumes nothing.
use Rattle.std.specs.Prelude.{ℕ, zero, suc, ◌+◌, Bool, true, List, eqb, ltb, get_or}
use Prim.Native.Char.{code}
use Rattle.text_scan.specs.Choice.{◌and◌, not}

-- a byte that is part of a value, whichever quote closes it: it stands above both and above '&', and is no '<'
unfoldable pub quiet : ℕ → Bool
quiet b = ltb (code "'") b and not (eqb b (code "<"))

-- the k bytes from i on are quiet
unfoldable pub quiet_for : List ℕ → ℕ → ℕ → Bool
quiet_for s i zero = true
quiet_for s i (suc k) = quiet_for s i k and quiet (get_or s (i + k) 0)
